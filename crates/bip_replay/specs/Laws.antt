-- What runs, faults and texts of grants mean, in the subject's own words.
use Rattle.std.specs.Prelude.{◌≡◌, ◌↔◌, ◌⊎◌, ℕ, ◌+◌, ◌<◌, ◌≤◌, nat_lt, List, [], ◌∷◌, ◌++◌, length}
use Rattle.std.specs.Prelude.{filter, Err, IsOk, Ok, Some, All, IsTrue, codes, slice_get}
use Rattle.std.specs.Prelude.{slice_index_or}
use Rattle.std.specs.List.{AllZip}
use Rattle.std.specs.List.Sorted.{IsPermutation, IsStrictlyIncreasing}
use Rattle.bip_model.specs.Grants.{IsHistory, MovesOnceEach}
use Rattle.bip_model.specs.States.{State}
use Rattle.bip_model.specs.Steps.{IsRun, after, start_of}
use Rattle.bip_model.specs.Parts.{IsSystem}
use Rattle.bip_model.specs.Naming.{IsName, name_in}
use Rattle.bip_model.specs.Texts.{is_plain, lines, number_of, said_in, words, words_said}
use Rattle.bip_model.specs.Wants.{IsWants, components_of, moved_in}
use Rattle.bip_model.specs.declared.grants.Grant.{Grant}
use Rattle.bip_model.specs.declared.wants.Role.TheVariants.{Moved, Seen}
use Rattle.bip_model.specs.declared.wants.Role.{Role}
use Rattle.bip_model.specs.declared.wants.Want.{Want}
use Rattle.bip_model.specs.declared.parts.System.{System}
use Rattle.bip_replay.specs.Faults.{IsFaultOf}
use Rattle.bip_replay.specs.Lines.{colon, grant_on}
use Rattle.bip_replay.specs.Replays.{IsFirstFault, IsRunOf}
use Rattle.bip_replay.specs.Runs.{IsModelRun, IsNext, interactions_of, state_after, used_after}
use Rattle.bip_replay.specs.Traces.{grants_of}
use Rattle.bip_replay.specs.Writing.{IsGrantOf, IsSpelled, behind_see, text_of}
use Rattle.bip_replay.specs.declared.faults.LineFault.{LineFault}
use Rattle.bip_replay.specs.declared.faults.ReplayFault.{ReplayFault}
use Rattle.bip_replay.specs.declared.faults.StepFault.{StepFault}

-- one grant more leads from the state to which those before it lead
abbrev pub StatesFromTheBack : Type 0
StatesFromTheBack =
    (m : System) (gs : List Grant) (g : Grant)
    → state_after m (gs ++ g ∷ []) ≡ after m (state_after m gs) g.inter.0

-- grants and one more are a run exactly where they are one and it can be next where they lead
abbrev pub GrantsFromTheBack : Type 0
GrantsFromTheBack =
    (m : System) (base : ℕ) (gs : List Grant) (g : Grant)
    → IsModelRun m base (gs ++ g ∷ [])
    ↔ (IsModelRun m base gs × IsNext m (state_after m gs) (used_after base gs) g)

-- the beginning of a run is a run
abbrev pub BeginningsAreRuns : Type 0
BeginningsAreRuns =
    (m : System) (base : ℕ) (gs hs : List Grant)
    → IsModelRun m base (gs ++ hs) → IsModelRun m base gs

-- each grant of a run is a next step after those before it, and where each is, the grants are a run
abbrev pub RunsStepByStep : Type 0
RunsStepByStep =
    (m : System) (base : ℕ) (gs : List Grant)
    → IsModelRun m base gs
    ↔ ((front rest : List Grant) (g : Grant) → gs ≡ front ++ g ∷ rest
    → IsNext m (state_after m front) (used_after base front) g)

-- the interactions of a run of grants are a run of the model
abbrev pub StepsAreARun : Type 0
StepsAreARun =
    (m : System) (base : ℕ) (gs : List Grant)
    → IsModelRun m base gs → IsRun m (start_of m) (interactions_of gs)

-- each grant of a run is of the model: it has its interaction and its components
abbrev pub RunsAreOfModel : Type 0
RunsAreOfModel =
    (m : System) (base : ℕ) (gs : List Grant)
    → IsSystem m → IsModelRun m base gs → All (IsGrantOf m) gs

-- a run of grants is a history above its base
abbrev pub RunsAreHistories : Type 0
RunsAreHistories =
    (m : System) (base : ℕ) (gs : List Grant) → IsModelRun m base gs → IsHistory (λ _. base) gs

-- a run moves no component twice with one number
abbrev pub RunsMoveOnceEach : Type 0
RunsMoveOnceEach =
    (m : System) (base : ℕ) (gs : List Grant) → IsModelRun m base gs → MovesOnceEach gs

-- how often grants move a component
abbrev pub times_moved : List Grant → ℕ → ℕ
times_moved gs c = length (filter (λ (g : Grant). nat_lt 0 (moved_in g.wants c)) gs)

-- the used number of a component after a run is the base and how often the run moved it
abbrev pub NumbersCountMoves : Type 0
NumbersCountMoves =
    (m : System) (base : ℕ) (gs : List Grant) (c : ℕ)
    → IsModelRun m base gs → used_after base gs c ≡ base + times_moved gs c

-- the first move of a component has the number behind the base, and the k-th has the base and k
abbrev pub MovesAreNumbered : Type 0
MovesAreNumbered =
    (m : System) (base : ℕ) (front rest : List Grant) (g : Grant) (c : ℕ)
    → IsModelRun m base (front ++ g ∷ rest) → 0 < moved_in g.wants c
    → moved_in g.wants c ≡ base + times_moved (front ++ g ∷ []) c

-- a grant with a fault can't be next
abbrev pub FaultsAreExact : Type 0
FaultsAreExact =
    (m : System) (s : State) (used : ℕ → ℕ) (g : Grant) (fault : StepFault)
    → IsFaultOf m s used g fault → ¬ IsNext m s used g

-- a grant has at most one fault
abbrev pub AtMostOneFault : Type 0
AtMostOneFault =
    (m : System) (s : State) (used : ℕ → ℕ) (g : Grant) (one other : StepFault)
    → IsFaultOf m s used g one → IsFaultOf m s used g other → one ≡ other

-- a grant whose wants are by component can be next, or has a fault
abbrev pub IsNextOrFaulty : Type 0
IsNextOrFaulty =
    (m : System) (s : State) (used : ℕ → ℕ) (g : Grant)
    → IsSystem m → IsStrictlyIncreasing (components_of g.wants)
    → IsNext m s used g ⊎ ((fault : StepFault) × IsFaultOf m s used g fault)

-- a trace with a first fault isn't the trace of a run
abbrev pub FirstFaultsAreExact : Type 0
FirstFaultsAreExact =
    (m : System) (base : ℕ) (text : List ℕ) (number : ℕ) (fault : ReplayFault)
    → IsFirstFault m base text number fault
    → (gs : List Grant) → grants_of m text ≡ Ok gs → ¬ IsModelRun m base gs

-- a trace has at most one first fault
abbrev pub AtMostOneFirstFault : Type 0
AtMostOneFirstFault =
    (m : System) (base : ℕ) (text : List ℕ) (n k : ℕ) (one other : ReplayFault)
    → IsFirstFault m base text n one → IsFirstFault m base text k other → (n ≡ k) × (one ≡ other)

-- every text is the trace of a run, or has a first fault
abbrev pub IsRunOrFaulty : Type 0
IsRunOrFaulty =
    (m : System) (base : ℕ) (text : List ℕ) → IsSystem m
    → ((count : ℕ) × IsRunOf m base text count)
    ⊎ ((number : ℕ) × (fault : ReplayFault) × IsFirstFault m base text number fault)

-- texts that say the same words, line by line, are the same grants
abbrev pub SameGrants : Type 0
SameGrants =
    (m : System) (a b : List ℕ) → said_in a ≡ said_in b
    → (gs : List Grant) → grants_of m a ≡ Ok gs → grants_of m b ≡ Ok gs

-- a text is the name with this number
pub record IsNameOf (names : List (List ℕ)) (text : List ℕ) (number : ℕ) : Type 0 where
  pub name : IsName text
  pub known : slice_get names number ≡ Some text

-- a word `C:N` spells a want with a role: C is its component's name, and N spells its number
pub record Spells (m : System) (role : Role) (word : List ℕ) (w : Want) : Type 0 where
  pub component : List ℕ
  pub numeral : List ℕ
  pub parts : word ≡ component ++ colon ∷ numeral
  pub names : IsNameOf m.component_names component w.comp.0
  pub number : number_of numeral ≡ Some w.number
  pub by_place : w.role ≡ role

-- the line of a grant: `grant`, its interaction's name, words that spell its moved wants, and
-- perhaps `see` with words that spell its seen ones; each want has its word, in whatever order, and
-- the grant has them by component, none of which stands twice
pub record IsGrantLine (m : System) (line : List ℕ) (g : Grant) : Type 0 where
  pub interaction : List ℕ
  pub moved_words : List (List ℕ)
  pub seen_words : List (List ℕ)
  pub moved : List Want
  pub seen : List Want
  pub plain : IsTrue (is_plain line)
  pub says : words line
      ≡ codes "grant" ∷ interaction ∷ (moved_words ++ behind_see seen_words)
  pub named : IsNameOf m.interaction_names interaction g.inter.0
  pub moves : AllZip (Spells m Moved) moved_words moved
  pub sees : AllZip (Spells m Seen) seen_words seen
  pub some : 0 < length moved
  pub few : length g.wants ≤ 32
  pub wants : IsPermutation (moved ++ seen) g.wants
  pub rising : IsStrictlyIncreasing (components_of g.wants)

-- a line reads as a grant exactly where it is that grant's line
abbrev pub ReadsGrantLines : Type 0
ReadsGrantLines =
    (m : System) (line : List ℕ) (g : Grant) → IsSystem m
    → (grant_on m line ≡ Ok (Some g)) ↔ IsGrantLine m line g

-- lines with the grants that they are: one of each line that has words, in their order
pub data AreGrantLines (m : System) : List (List ℕ) → List Grant → Type 0 where
  no_line : AreGrantLines m [] []
  no_words : {line : List ℕ} {rest : List (List ℕ)} {gs : List Grant} → words_said line ≡ Some []
      → AreGrantLines m rest gs → AreGrantLines m (line ∷ rest) gs
  grant_line : {line : List ℕ} {rest : List (List ℕ)} {g : Grant} {gs : List Grant}
      → IsGrantLine m line g → AreGrantLines m rest gs → AreGrantLines m (line ∷ rest) (g ∷ gs)

-- a text is the grants of its lines, and only lines without words are passed over
abbrev pub GrantsLineByLine : Type 0
GrantsLineByLine =
    (m : System) (text : List ℕ) (gs : List Grant) → IsSystem m
    → (grants_of m text ≡ Ok gs) ↔ AreGrantLines m (lines text) gs

-- the first line of a text that is at fault, with its number, counted from 1, and its fault: those
-- before it have none
pub record IsFirstLineAtFault (m : System) (text : List (List ℕ)) (number : ℕ) (fault : LineFault)
    : Type 0 where
  pub before : List (List ℕ)
  pub line : List ℕ
  pub rest : List (List ℕ)
  pub split : text ≡ before ++ line ∷ rest
  pub counted : number ≡ length before + 1
  pub clear : All (λ (l : List ℕ). IsOk (grant_on m l)) before
  pub at : grant_on m line ≡ Err fault

-- what is told of a text that isn't grants is its first line at fault, with that line's fault
abbrev pub TellsFirstLine : Type 0
TellsFirstLine =
    (m : System) (text : List ℕ) (number : ℕ) (fault : LineFault)
    → grants_of m text ≡ Err (number, fault) → IsFirstLineAtFault m (lines text) number fault

-- a grant of a model that can be written: what it names has a name, and its wants are in order
pub record CanBeWritten (m : System) (g : Grant) : Type 0 where
  pub of_model : IsGrantOf m g
  pub interaction : IsName (name_in m.interaction_names g.inter.0)
  pub wants : IsWants g.wants
  pub components : All (IsSpelled m) g.wants

-- the text of such grants is these grants
abbrev pub WrittenReadsBack : Type 0
WrittenReadsBack =
    (m : System) (gs : List Grant) → IsSystem m → All (CanBeWritten m) gs
    → grants_of m (text_of m gs) ≡ Ok gs

-- the second word of a grant's line is the name of its interaction
abbrev pub NamesItsInteraction : Type 0
NamesItsInteraction =
    (m : System) (line : List ℕ) (g : Grant) → grant_on m line ≡ Ok (Some g)
    → slice_index_or (words line) 1 [] ≡ name_in m.interaction_names g.inter.0

-- the grants that a text is are grants of the model
abbrev pub AreOfModel : Type 0
AreOfModel =
    (m : System) (text : List ℕ) (gs : List Grant) → grants_of m text ≡ Ok gs → All (IsGrantOf m) gs
