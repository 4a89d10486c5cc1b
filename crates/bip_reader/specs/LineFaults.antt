-- What can be wrong with a line that states something, in the order in which it is told: with its
-- words from the left, each behind those before it; and then with the line as a whole.
use Rattle.std.specs.Prelude.{◌≡◌, ℕ, Bool, false, not, ◌==◌, ◌&&◌, ◌||◌, nat_le, nat_lt, List, []}
use Rattle.std.specs.Prelude.{◌∷◌, ◌++◌, length, map, Option, None, Some, All, is_some, position}
use Rattle.std.specs.Prelude.{option_and_then, slice_get, unwrap_or, if◌then◌else◌}
use Rattle.std.specs.List.{flat_map, list_any}
use Rattle.std.specs.Option.{option_map_or, option_zip}
use Rattle.bip_model.specs.Components.{is_taken, leaves}
use Rattle.bip_model.specs.Drafts.{begun_in}
use Rattle.bip_model.specs.Naming.{is_known, same_text}
use Rattle.bip_model.specs.Priorities.{is_same_pair, pair}
use Rattle.bip_model.specs.Scopes.{are_long_assignments, is_long_guard}
use Rattle.bip_model.specs.declared.expressions.Assignment.{Assignment}
use Rattle.bip_model.specs.declared.expressions.Comparison.{Comparison}
use Rattle.bip_model.specs.declared.expressions.Expr.{Expr}
use Rattle.bip_model.specs.declared.expressions.Sign.{Sign}
use Rattle.bip_model.specs.declared.expressions.Term.{Term}
use Rattle.bip_model.specs.declared.expressions.Term.TheVariants.{Value, Of}
use Rattle.bip_model.specs.declared.parts.Component.{Component}
use Rattle.bip_model.specs.declared.parts.System.{System}
use Rattle.bip_model.specs.declared.scopes.VariableName.{VariableName}
use Rattle.bip_reader.specs.Reading.{draft_of}
use Rattle.bip_reader.specs.Texts.{system_of}
use Rattle.bip_reader.specs.declared.faults.Why.{Why}
use Rattle.bip_reader.specs.declared.faults.Why.TheVariants.{Unknown, Twice, TooMany, Missing}
use Rattle.bip_reader.specs.declared.faults.Why.TheVariants.{TwoTransitions}
use Rattle.bip_reader.specs.declared.reading.Reading.{Reading}
use Rattle.bip_reader.specs.declared.statements.Statement.{Statement}
use Rattle.bip_reader.specs.declared.statements.Statement.TheVariants as statement

-- this fault, if so
abbrev pub fault_if : Why → Bool → Option Why
fault_if why is_so = if is_so then Some why else None

-- the faults of each thing, behind those before it
abbrev pub from_left : {A : Type 0} → (List A → A → List (Option Why)) → List A → List A
    → List (Option Why)
from_left f before [] = []
from_left f before (x ∷ rest) = f before x ++ from_left f (before ++ x ∷ []) rest

-- whether a component of this name has declared another name, among those of a kind
abbrev pub has_declared : (Component → List (List ℕ)) → System → List ℕ → List ℕ → Bool
has_declared kind m component name =
    option_map_or (λ c. is_known name (kind c))
    (option_and_then (slice_get m.components) (position (same_text component) m.component_names))
    false

-- `C.p`: a port of a component, which takes part for the first time
abbrev pub faults_of_participant : System → List (List ℕ × List ℕ) → List ℕ × List ℕ
    → List (Option Why)
faults_of_participant m before word =
    fault_if Unknown (not (has_declared (λ c. c.ports) m word.0 word.1))
    ∷ fault_if Twice (list_any (λ (q : List ℕ × List ℕ). same_text word.0 q.0) before) ∷ []

-- whether `v` is a variable of a component, and `C.v` one of a participant
abbrev pub is_own_variable : Component → VariableName → Bool
is_own_variable c v = not (is_some v.owner) && is_known v.name c.variables

abbrev pub is_shared_variable : System → List (List ℕ × List ℕ) → VariableName → Bool
is_shared_variable m participants v =
    option_map_or (λ owner. list_any (λ (q : List ℕ × List ℕ). same_text owner q.0) participants
    && has_declared (λ c. c.variables) m owner v.name) v.owner false

-- a term, a sum and a guard: each variable in them is there
abbrev pub faults_of_term : (VariableName → Bool) → Term VariableName → List (Option Why)
faults_of_term is_there (Value n) = []
faults_of_term is_there (Of v) = fault_if Unknown (not (is_there v)) ∷ []

abbrev pub faults_of_sum : (VariableName → Bool) → Expr VariableName → List (Option Why)
faults_of_sum is_there e =
    faults_of_term is_there e.first
    ++ flat_map (λ (t : Sign × Term VariableName). faults_of_term is_there t.1) e.rest

abbrev pub faults_of_guard : (VariableName → Bool) → List (Comparison VariableName)
    → List (Option Why)
faults_of_guard is_there guard =
    flat_map (λ c. faults_of_sum is_there c.left ++ faults_of_sum is_there c.right) guard

-- an assignment: its target is there, and then its sum
abbrev pub faults_of_update : (VariableName → Bool) → Assignment VariableName → List (Option Why)
faults_of_update is_there a =
    fault_if Unknown (not (is_there a.target)) ∷ faults_of_sum is_there a.sum

-- one of a transfer: besides, no assignment before it has that target
abbrev pub is_same_name : VariableName → VariableName → Bool
is_same_name v w =
    same_text (unwrap_or v.owner []) (unwrap_or w.owner []) && same_text v.name w.name

abbrev pub faults_of_transfer : (VariableName → Bool) → List (Assignment VariableName)
    → Assignment VariableName → List (Option Why)
faults_of_transfer is_there before a =
    fault_if Unknown (not (is_there a.target))
    ∷ fault_if Twice
    (list_any (λ (b : Assignment VariableName). is_same_name a.target b.target) before)
    ∷ faults_of_sum is_there a.sum

-- whether a component has a transition with this port from this location
abbrev pub has_transition : Component → List ℕ → List ℕ → Bool
has_transition c port source =
    option_map_or (λ n. list_any (leaves (record { 0 = n.1 }) (record { 0 = n.0 })) c.transitions)
    (option_zip (position (same_text port) c.ports) (position (same_text source) c.locations)) false

-- whether LOW < HIGH has been declared
abbrev pub has_priority : System → List ℕ → List ℕ → Bool
has_priority m low high =
    option_map_or (λ n. list_any (is_same_pair (pair n.0 n.1)) m.priorities)
    (option_zip (position (same_text low) m.interaction_names)
    (position (same_text high) m.interaction_names)) false

-- a name inside a component, which has so many of its kind
abbrev pub faults_of_name : Component → List ℕ → ℕ → ℕ → List (Option Why)
faults_of_name c name most count =
    fault_if Twice (is_taken name c) ∷ fault_if TooMany (nat_le most count) ∷ []

-- `PORT FROM TO [when GUARD] [do ASSIGNS]`, in a component
abbrev pub faults_of_trans : Component → List ℕ → List ℕ → List ℕ
    → List (Comparison VariableName) → List (Assignment VariableName) → List (Option Why)
faults_of_trans c port source target guard update =
    fault_if Unknown (not (is_known port c.ports))
    ∷ fault_if Unknown (not (is_known source c.locations))
    ∷ fault_if Unknown (not (is_known target c.locations))
    ∷ (faults_of_guard (is_own_variable c) guard
    ++ (flat_map (faults_of_update (is_own_variable c)) update
    ++ fault_if TooMany (nat_le 256 (length c.transitions)
    || is_long_guard guard || are_long_assignments update)
    ∷ fault_if TwoTransitions (has_transition c port source) ∷ []))

-- `NAME C.p C.p .. [when GUARD] [do ASSIGNS]`, over a system
abbrev pub faults_of_interaction : System → List ℕ → List (List ℕ × List ℕ)
    → List (Comparison VariableName) → List (Assignment VariableName) → List (Option Why)
faults_of_interaction m name participants guard transfer =
    fault_if Twice (is_known name m.interaction_names)
    ∷ (from_left (faults_of_participant m) [] participants
    ++ (faults_of_guard (is_shared_variable m participants) guard
    ++ (from_left (faults_of_transfer (is_shared_variable m participants)) [] transfer
    ++ fault_if TooMany (nat_le 128 (length m.interactions) || nat_lt 8 (length participants)
    || is_long_guard guard || are_long_assignments transfer) ∷ [])))

-- what can be wrong with each kind of line, in order
abbrev pub line_faults : Reading → Statement → List (Option Why)
line_faults r statement.Header = []
line_faults r (statement.Component name) =
    fault_if Twice (is_known name (system_of r).component_names)
    ∷ fault_if TooMany (nat_le 64 (length (system_of r).component_names)) ∷ []
line_faults r (statement.Var name value) =
    faults_of_name (begun_in (draft_of r)) name 8 (length (begun_in (draft_of r)).variables)
line_faults r (statement.Loc name) =
    faults_of_name (begun_in (draft_of r)) name 64 (length (begun_in (draft_of r)).locations)
line_faults r (statement.Port name) =
    faults_of_name (begun_in (draft_of r)) name 16 (length (begun_in (draft_of r)).ports)
line_faults r (statement.Trans port source target guard update) =
    faults_of_trans (begun_in (draft_of r)) port source target guard update
line_faults r statement.End =
    fault_if Missing (length (begun_in (draft_of r)).locations == 0) ∷ []
line_faults r (statement.Interaction name participants guard transfer) =
    faults_of_interaction (system_of r) name participants guard transfer
line_faults r (statement.Priority low high) =
    fault_if Unknown (not (is_known low (system_of r).interaction_names))
    ∷ fault_if Unknown (not (is_known high (system_of r).interaction_names))
    ∷ fault_if Twice (has_priority (system_of r) low high) ∷ []
line_faults r (statement.Class name interactions) =
    fault_if Twice (list_any (λ class. same_text name class.0) r.classes)
    ∷ (map (λ inter. fault_if Unknown (not (is_known inter (system_of r).interaction_names)))
    interactions
    ++ fault_if TooMany (nat_le 32 (length r.classes)) ∷ [])

-- the first of what can be wrong: nothing before it is
pub record IsFirstOf (faults : List (Option Why)) (why : Why) : Type 0 where
  pub before : List (Option Why)
  pub behind : List (Option Why)
  pub split : faults ≡ before ++ Some why ∷ behind
  pub clear : All (λ fault. fault ≡ None) before
