-- What a line's grant names, and a number of it that is wrong.
use Rattle.std.specs.Prelude.{◌≡◌, ℕ, ◌-◌, ◌==◌, Bool, false, List, [], ◌∷◌, ◌++◌, codes}
use Rattle.std.specs.Prelude.{All, Option, None, Some, if◌then◌else◌, position}
use Rattle.std.specs.Fmt.{decimal}
use Rattle.std.specs.List.{slice_get}
use Rattle.std.specs.Option.{option_map_or}
use Rattle.bip_model.specs.Naming.{same_text}
use Rattle.bip_model.specs.Texts.{words}
use Rattle.bip_model.specs.declared.parts.System.{System}
use Rattle.bip_model.specs.declared.numbering.CompId.{CompId}
use Rattle.bip_replay.specs.Laws.{times_moved}
use Rattle.bip_replay.specs.Replays.{IsFirstFault}
use Rattle.bip_replay.specs.declared.faults.ReplayFault.TheVariants.{NotARun}
use Rattle.bip_replay.specs.declared.faults.BookFault.TheVariants.{Number}
use Rattle.bip_explain.specs.Explanations.{marked, placed_parts}
use Rattle.bip_explain.specs.Placed.{IsPlacedOn, first_two, said_words}
use Rattle.bip_explain.specs.Words.{IsWant, named_in}
use Rattle.bip_explain.specs.declared.grants.WrongNumber.{WrongNumber}
use Rattle.bip_explain.specs.declared.placed.Placed.{Placed}

-- a word names this component of the model
abbrev pub IsWantOf : System → ℕ → List ℕ → Type 0
IsWantOf model comp word =
    (component : List ℕ) × IsWant component word
    × (position (same_text component) model.component_names ≡ Some comp)

-- a word of the line names this component, and stands at its column
abbrev pub IsWantOn : System → List ℕ → ℕ → Placed → Type 0
IsWantOn model line comp placed = IsPlacedOn line placed × IsWantOf model comp placed.word.now

-- whether a word names this component with a number
abbrev pub names_comp : System → ℕ → List ℕ → Bool
names_comp model comp word =
    option_map_or (λ name. option_map_or (λ c. c == comp)
    (position (same_text name) model.component_names) false) (named_in word) false

-- a word of the line is told that names this component; where none is told no word does
abbrev pub IsWantTold : System → List ℕ → ℕ → Option Placed → Type 0
IsWantTold model line comp None = All (λ word. ¬ IsWantOf model comp word) (words line)
IsWantTold model line comp (Some placed) = IsWantOn model line comp placed

-- the line's grant is one of this interaction
abbrev pub IsGrantOn : System → List ℕ → ℕ → Type 0
IsGrantOn model line inter =
    (keyword : List ℕ) × (word : List ℕ) × (first_two (said_words line) ≡ Some (keyword, word))
    × (position (same_text word) model.interaction_names ≡ Some inter)

-- what is told of a number: the fault's component, with the number of its next move, and the word
-- of the line that names it
pub record IsWrongNumber (model : System) (line : List ℕ) (c : CompId) (next : ℕ)
    (wrong : WrongNumber) : Type 0 where
  pub placed : IsWantTold model line wrong.comp.0 wrong.placed
  pub comp : wrong.comp ≡ c
  pub expected : wrong.expected ≡ next

-- where this is the trace's fault, the component has moved so often in the lines before, as is told
abbrev pub IsCountOf : System → ℕ → List ℕ → ℕ → CompId → ℕ → Type 0
IsCountOf model base text number comp next =
    (first : IsFirstFault model base text number (NotARun (Number comp next)))
    → ¬ (next ≡ 0) → (next - base) - 1 ≡ times_moved first.grants comp.0

-- a name, if a list has one at this place
abbrev pub marked_name : Option (List ℕ) → List (List ℕ)
marked_name None = []
marked_name (Some name) = marked name ∷ []

abbrev pub name_parts : List (List ℕ) → ℕ → List (List ℕ)
name_parts names n = marked_name (slice_get names n)

abbrev pub component_parts : System → ℕ → List (List ℕ)
component_parts model comp = codes "component " ∷ name_parts model.component_names comp

-- a word in front of what is said of it, if there is one
abbrev pub front_parts : Option Placed → List (List ℕ)
front_parts None = []
front_parts (Some placed) = placed_parts placed ++ codes ": " ∷ []

-- how often a component has moved, above a base of numbers, and the number of its next move
abbrev pub next_parts : ℕ → ℕ → List (List ℕ)
next_parts base expected =
    if expected == 0 then codes " has used the last number, and moves no more" ∷ []
    else codes ", moves before this line: " ∷ decimal ((expected - base) - 1)
    ∷ codes "; its next one has number " ∷ decimal expected ∷ []

-- how a wrong number is told
abbrev pub number_parts : System → ℕ → WrongNumber → List (List ℕ)
number_parts model base wrong =
    front_parts wrong.placed ++ component_parts model wrong.comp.0 ++ next_parts base wrong.expected
