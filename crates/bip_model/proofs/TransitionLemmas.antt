-- What a transition of a component says is over the component's variables.
use Rattle.std.proofs.Common.{◌≡◌, ℕ, List, [], ◌∷◌, length, Some, sym}
use Rattle.bip_model.specs.declared.numbering.LocId.{LocId}
use Rattle.bip_model.specs.declared.numbering.PortId.{PortId}
use Rattle.bip_model.specs.declared.parts.Component.{Component}
use Rattle.bip_model.specs.declared.parts.Transition.{Transition}
use Rattle.bip_model.specs.Components.{leaves, transition_for}
use Rattle.bip_model.specs.Expressions.{AreAssignmentsIn, AreComparisonsIn}
use Rattle.bip_model.specs.Parts.{IsComponent, IsTransitionOf}
use Rattle.bip_model.specs.Parts.{IsSystem, Participant, count_of}
use Rattle.bip_model.specs.States.{State}
use Rattle.bip_model.specs.Steps.{transition_of, values_at}
use Rattle.bip_model.specs.declared.parts.System.{System}
use Rattle.bip_model.specs.declared.states.LocalState.{LocalState}
use Rattle.std.specs.Option.{option_and_then, option_map_or}
use Rattle.std.proofs.Common.{Option, None, IfSome, refl, slice_get}
use Rattle.bip_model.proofs.ListLemmas.{All-find, All-slice_get}

-- the transition that is found is one of the component
joins : (k : Component) (location : LocId) (port : PortId) (t : Transition) → IsComponent k
    → Some t ≡ transition_for k location port → IsTransitionOf k t
joins k location port t valid is = All-find (IsTransitionOf k)
    (leaves location port) k.transitions t valid.so_far.transitions (sym is)

pub guard_in : (k : Component) (values : List ℕ) (location : LocId) (port : PortId) (t : Transition)
    → IsComponent k → length values ≡ length k.variables → Some t ≡ transition_for k location port
    → AreComparisonsIn (length values ∷ []) t.guard
guard_in k values location port t valid count is =
    rw count (joins k location port t valid is).guard.there

pub update_in : (k : Component) (values : List ℕ) (location : LocId) (port : PortId)
    (t : Transition) → IsComponent k → length values ≡ length k.variables
    → Some t ≡ transition_for k location port → AreAssignmentsIn (length values ∷ []) t.update
update_in k values location port t valid count is =
    rw count (joins k location port t valid is).update.there

-- so is that of the transition by which a component goes
pub follow_in : (m : System) (s : State) (q : Participant) (t : Transition) → IsSystem m
    → length (values_at s q) ≡ count_of m.components q → transition_of m s q ≡ Some t
    → IfSome (s q.0.0) (λ local. AreAssignmentsIn (length local.values ∷ []) t.update)
follow_in m s q t valid same is = by_component (slice_get m.components q.0.0) refl (s q.0.0) same is
  where
    by_component : (k : Option Component) → slice_get m.components q.0.0 ≡ k
        → (p : Option LocalState) → length (option_map_or (λ (local : LocalState). local.values) p
        []) ≡ option_map_or (λ (component : Component). length component.variables) k 0
        → option_and_then (λ component. option_and_then
        (λ local. transition_for component local.location q.1) p) k ≡ Some t
        → IfSome p (λ local. AreAssignmentsIn (length local.values ∷ []) t.update)
    by_component k at None count found = tt
    by_component None at (Some local) count found = cc
    by_component (Some k) at (Some local) count found =
        update_in k local.values local.location q.1 t
        (All-slice_get IsComponent m.components q.0.0 k valid.so_far.components at) count
        (sym found)
