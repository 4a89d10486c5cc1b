-- What each line of a model's text says: from a draft to the draft with it, or to the first fault.
use Rattle.std.specs.Prelude.{◌≡◌, ℕ, ◌+◌, ◌<◌, not, ◌==◌, ◌||◌, nat_lt, nat_le, List, [], ◌∷◌}
use Rattle.std.specs.Prelude.{◌++◌, length, None, Some, Result, Ok, Err, IfSome, IsNone, is_some}
use Rattle.std.specs.Prelude.{slice_get, unwrap_or, if◌then◌else◌}
use Rattle.std.specs.List.{list_any}
use Rattle.std.specs.Option.{ok_or}
use Rattle.bip_model.specs.Components.{no_component, number_in}
use Rattle.bip_model.specs.Naming.{is_known}
use Rattle.bip_model.specs.Numbering.{by_number}
use Rattle.bip_model.specs.Faults.{◌>>=◌}
use Rattle.bip_model.specs.Priorities.{IsCyclic, is_same_pair, pair, put_pair}
use Rattle.bip_model.specs.Parts.{IsComponentSoFar, IsSystemSoFar, Participant}
use Rattle.bip_model.specs.Scopes.{are_long_assignments, assignments_with, guard_with}
use Rattle.bip_model.specs.Scopes.{is_long_guard, knows_guard, shared, transfer_said}
use Rattle.bip_model.specs.declared.drafts.Draft.{Draft}
use Rattle.bip_model.specs.declared.expressions.Assignment.{Assignment}
use Rattle.bip_model.specs.declared.expressions.Comparison.{Comparison}
use Rattle.bip_model.specs.declared.faults.BuildFault.{BuildFault}
use Rattle.bip_model.specs.declared.faults.BuildFault.TheVariants.{Unknown, Twice, TooMany, Missing}
use Rattle.bip_model.specs.declared.faults.BuildFault.TheVariants.{Memory, PriorityCycle}
use Rattle.bip_model.specs.declared.parts.Component.{Component}
use Rattle.bip_model.specs.declared.parts.Interaction.{Interaction}
use Rattle.bip_model.specs.declared.parts.Pair.{Pair}
use Rattle.bip_model.specs.declared.parts.System.{System}
use Rattle.bip_model.specs.declared.scopes.VariableName.{VariableName}

abbrev pub no_system : System
no_system =
    record {
      component_names = [];
      components = [];
      interaction_names = [];
      interactions = [];
      priorities = [];
    }

-- nothing has been said yet
abbrev pub empty_draft : Draft
empty_draft = record { system = no_system; begun = None }

-- the component that is begun
abbrev pub begun_in : Draft → Component
begun_in d = unwrap_or d.begun no_component

-- `component NAME` begins a component
abbrev pub component_line : Draft → List ℕ → Result Draft BuildFault
component_line d name =
    if is_known name d.system.component_names then Err Twice
    else if nat_le 64 (length d.system.component_names) then Err TooMany
    else Ok (record {
      system = record d.system { component_names = d.system.component_names ++ name ∷ [] };
      begun = Some no_component;
    })

-- what a line inside a component says of that one, said of the draft
abbrev pub inside : (Component → Result Component BuildFault) → Draft → Result Draft BuildFault
inside f d = f (begun_in d) >>= λ c. Ok (record d { begun = Some c })

-- `end` ends the component that is begun
abbrev pub end_line : Draft → Result Draft BuildFault
end_line d =
    if length (begun_in d).locations == 0 then Err Missing
    else Ok (record {
      system = record d.system { components = d.system.components ++ begun_in d ∷ [] };
      begun = None;
    })

-- a participant as a text names it: a component and one of its ports
abbrev pub participant_named : System → List ℕ × List ℕ → Result Participant BuildFault
participant_named m word =
    number_in m.component_names word.0
    >>= λ c. ok_or (slice_get m.components c) Unknown
    >>= λ component. number_in component.ports word.1
    >>= λ p. Ok (record { 0 = c }, record { 0 = p })

-- participants by component
abbrev pub by_component : List Participant → List Participant
by_component participants = by_number (λ (q : Participant). q.0.0) participants

-- the participants that a text names, by component, with those of the words before; a component
-- that takes part already is named twice
abbrev pub participants_named : System → List Participant → List (List ℕ × List ℕ)
    → Result (List Participant) BuildFault
participants_named m before [] = Ok (by_component before)
participants_named m before (word ∷ words) =
    participant_named m word
    >>= λ q. (if list_any (λ (r : Participant). r.0.0 == q.0.0) before then Err Twice
    else participants_named m (before ++ q ∷ []) words)

-- the interaction of participants, with the guard and the transfer of which a text names the
-- variables
abbrev pub interaction_of : System → List Participant → List (Comparison VariableName)
    → List (Assignment VariableName) → Interaction
interaction_of m participants guard transfer =
    record {
      participants = participants;
      guard = guard_with (shared m participants) guard;
      transfer = assignments_with (shared m participants) transfer;
    }

-- an interaction joins those of a system
abbrev pub with_interaction : List ℕ → List Participant → List (Comparison VariableName)
    → List (Assignment VariableName) → System → Result System BuildFault
with_interaction name participants guard transfer m =
    if nat_le 128 (length m.interactions)
    || nat_lt 8 (length participants)
    || is_long_guard guard || are_long_assignments transfer then Err TooMany
    else Ok (record m {
      interaction_names = m.interaction_names ++ name ∷ [];
      interactions = m.interactions ++ interaction_of m participants guard transfer ∷ [];
    })

-- so does one of which the names of variables are looked up among the participants'
abbrev pub interaction_over : List ℕ → List Participant → List (Comparison VariableName)
    → List (Assignment VariableName) → System → Result System BuildFault
interaction_over name participants guard transfer m =
    if not (knows_guard (shared m participants) guard) then Err Unknown
    else transfer_said (shared m participants) [] transfer
    >>= λ _. with_interaction name participants guard transfer m

-- `interaction NAME C.p C.p .. [when GUARD] [do ASSIGNS]`
abbrev pub interaction_line : Draft → List ℕ → List (List ℕ × List ℕ)
    → List (Comparison VariableName) → List (Assignment VariableName) → Result Draft BuildFault
interaction_line d name words guard transfer =
    if is_known name d.system.interaction_names then Err Twice
    else participants_named d.system [] words
    >>= λ participants. interaction_over name participants guard transfer d.system
    >>= λ m. Ok (record d { system = m })

-- a priority joins those of a system
abbrev pub with_priority : Pair → System → Result System BuildFault
with_priority p m =
    if list_any (is_same_pair p) m.priorities then Err Twice
    else Ok (record m { priorities = put_pair p m.priorities })

-- `priority LOW < HIGH`
abbrev pub priority_line : Draft → List ℕ → List ℕ → Result Draft BuildFault
priority_line d low high =
    number_in d.system.interaction_names low
    >>= λ a. number_in d.system.interaction_names high
    >>= λ b. with_priority (pair a b) d.system
    >>= λ m. Ok (record d { system = m })

-- what the lines have declared is whole: no component is begun, and there is one
pub record IsWhole (d : Draft) : Type 0 where
  pub ended : IsNone d.begun
  pub some : 0 < length d.system.components

-- why a system declares no model though it is whole: an interaction stands above itself; or memory
-- is wanting
abbrev pub IsCycleFault : System → BuildFault → Type 0
IsCycleFault m PriorityCycle = IsCyclic m.priorities
IsCycleFault m Memory = ¬ IsCyclic m.priorities
IsCycleFault m fault = ⊥

-- why lines declare no model where they end, the first that applies: what they declare isn't whole,
-- or an interaction stands above itself; or memory is wanting for one that they declare
abbrev pub IsEndFault : Draft → BuildFault → Type 0
IsEndFault d Missing = ¬ IsWhole d
IsEndFault d PriorityCycle = IsWhole d × IsCyclic d.system.priorities
IsEndFault d Memory = IsWhole d × (¬ IsCyclic d.system.priorities)
IsEndFault d fault = ⊥

-- drafts that lines lead to
pub record IsDraft (d : Draft) : Type 0 where
  pub so_far : IsSystemSoFar d.system
  pub begun_so_far : IfSome d.begun IsComponentSoFar
  pub named : length d.system.component_names
      ≡ length d.system.components + (if is_some d.begun then 1 else 0)
