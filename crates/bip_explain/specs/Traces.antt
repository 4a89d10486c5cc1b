-- Why a line of a trace says no grant, and how it is told.
use Rattle.std.specs.Prelude.{◌≡◌, ◌⊎◌, ℕ, ◌<◌, ◌≤◌, List, [], ◌∷◌, ◌++◌, Ok, Some, codes, ⊤}
use Rattle.std.specs.Prelude.{Bool, Err, count_by, false, is_some, length, nat_le, not, position}
use Rattle.std.specs.Prelude.{true, ◌&&◌, ◌||◌}
use Rattle.std.specs.List.{list_all}
use Rattle.std.specs.Option.{option_map_or}
use Rattle.bip_model.specs.Naming.{IsName, is_known, same_text}
use Rattle.bip_model.specs.Texts.{words}
use Rattle.bip_model.specs.declared.parts.System.{System}
use Rattle.bip_model.specs.declared.clauses.Spelling.TheVariants.{Own}
use Rattle.bip_replay.specs.Lines.{NamedGrant, grant_on, said}
use Rattle.bip_replay.specs.declared.faults.LineFault.TheVariants as line_fault
use Rattle.bip_replay.specs.declared.faults.TraceFault.{TraceFault}
use Rattle.bip_replay.specs.declared.faults.TraceFault.TheVariants.{Syntax, Unknown, Memory}
use Rattle.bip_explain.specs.Explanations.{column_parts, marked, placed_parts}
use Rattle.bip_explain.specs.Forms.{IsByteReason, IsFormReason, IsNoLine, form_parts}
use Rattle.bip_explain.specs.Placed.{IsNameBehind, IsPlacedOn, IsWordAt, first_two}
use Rattle.bip_explain.specs.Words.{HasNot, IsWant, is_want, named_in}
use Rattle.bip_explain.specs.declared.expected.Expected.TheVariants.{Grant}
use Rattle.bip_explain.specs.declared.forms.FormReason.{FormReason}
use Rattle.bip_explain.specs.declared.placed.Placed.{Placed}
use Rattle.bip_explain.specs.declared.traces.TraceReason.{TraceReason}
use Rattle.bip_explain.specs.declared.traces.TraceReason.TheVariants.{Form, Twice, TooMany}
use Rattle.bip_explain.specs.declared.traces.TraceReason.TheVariants.{NoInteraction, NoComponent}
use Rattle.bip_explain.specs.declared.traces.TraceReason.TheVariants.{NoMemory}

-- a word behind these, the first words of a line, names what it grants
abbrev pub name_granted : List (List ℕ) → Bool
name_granted (keyword ∷ []) = true
name_granted front = false

-- a word of a line in front of a column names a component
abbrev pub IsNamedBefore : List ℕ → ℕ → List ℕ → Type 0
IsNamedBefore line column component =
    (at : ℕ) × (word : List ℕ) × (at < column) × IsWordAt line at word × IsWant component word

-- words say a grant by names
abbrev pub IsGrantWords : List (List ℕ) → Type 0
IsGrantWords ws = (g : NamedGrant) × (said ws ≡ Ok (Some g))

-- a reason is true of a line's form: a byte can stand in no text; or no line that says a grant has
-- these words in front
abbrev pub IsTraceForm : List ℕ → FormReason → Type 0
IsTraceForm line reason =
    IsByteReason line reason
    ⊎ (IsFormReason Own Grant [] line reason × IsNoLine IsGrantWords line reason)

-- a word names a component, and so do 32 words in front of it
abbrev pub IsOneTooMany : List ℕ → Placed → Type 0
IsOneTooMany line placed =
    (at : IsPlacedOn line placed) × ((component : List ℕ) × IsWant component placed.word.now)
    × (32 ≤ count_by is_want at.front)

-- words name no component that stands among these already, or in a word before, and no more than
-- 32 components with these
abbrev pub are_apart : List (List ℕ) → List (List ℕ) → Bool
are_apart names [] = true
are_apart names (word ∷ rest) =
    option_map_or (λ name. not (is_known name names || nat_le 32 (length names))
    && are_apart (names ++ name ∷ []) rest)
    (named_in word) (are_apart names rest)

-- each component that words name is one of a model
abbrev pub are_known : List (List ℕ) → List (List ℕ) → Bool
are_known names ws =
    list_all (λ word. option_map_or (λ name. is_some (position (same_text name) names))
    (named_in word) true) ws

-- a reason is true of a line and a model: the word that is told stands at its column; a component
-- that stands twice is named by a word before, and 32 are where one is too many; an interaction
-- that is missing is what the line grants, and like a component that is, no name of the model
abbrev pub IsTraceReason : System → List ℕ → TraceReason → Type 0
IsTraceReason model line (Form reason) = IsTraceForm line reason
IsTraceReason model line (Twice placed) =
    IsPlacedOn line placed
    × ((component : List ℕ) × IsWant component placed.word.now
    × IsNamedBefore line placed.column component)
IsTraceReason model line (TooMany placed) = IsOneTooMany line placed
IsTraceReason model line (NoInteraction placed) =
    IsNameBehind name_granted line placed × HasNot model.interaction_names placed.word.now
IsTraceReason model line (NoComponent placed component) =
    IsPlacedOn line placed × IsWant component placed.word.now
    × HasNot model.component_names component
IsTraceReason model line NoMemory = ⊤

-- the kind of fault that a reason is one of
abbrev pub trace_fault_of : TraceReason → TraceFault
trace_fault_of (Form reason) = Syntax
trace_fault_of (Twice placed) = Syntax
trace_fault_of (TooMany placed) = Syntax
trace_fault_of (NoInteraction placed) = Unknown
trace_fault_of (NoComponent placed component) = Unknown
trace_fault_of NoMemory = Memory

-- what may be told of a line with a fault: a reason that is true of it, and of that kind
abbrev pub IsTraceReasonOf : System → List ℕ → TraceFault → TraceReason → Type 0
IsTraceReasonOf model line fault reason =
    IsTraceReason model line reason × (trace_fault_of reason ≡ fault)

-- where no reason may be found: where the line hasn't the fault, and nowhere for want of memory; of
-- a name, besides, nowhere if the second word is one that no interaction has
abbrev pub MayKeepTrace : System → List ℕ → TraceFault → Type 0
MayKeepTrace model line Syntax = ¬ (grant_on model line ≡ Err line_fault.Syntax)
MayKeepTrace model line Unknown =
    (¬ (grant_on model line ≡ Err line_fault.Unknown))
    × ((first : List ℕ) → (second : List ℕ) → first_two (words line) ≡ Some (first, second)
    → IsName second → ¬ HasNot model.interaction_names second)
MayKeepTrace model line Memory = ⊥

-- how a reason is told
abbrev pub trace_parts : TraceReason → List (List ℕ)
trace_parts (Form reason) = form_parts reason
trace_parts (Twice placed) =
    placed_parts placed ++ codes " names a component that stands here already" ∷ []
trace_parts (TooMany placed) =
    placed_parts placed ++ codes " is one too many; a grant names at most 32 components" ∷ []
trace_parts (NoInteraction placed) =
    column_parts placed.column
    ++ codes "the model has no interaction " ∷ marked placed.word.now ∷ []
trace_parts (NoComponent placed component) =
    column_parts placed.column ++ codes "the model has no component " ∷ marked component ∷ []
trace_parts NoMemory = codes "the trace takes more memory than there is" ∷ []
