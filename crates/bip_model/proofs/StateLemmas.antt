-- States of a model: the first one, and those to which joint steps lead.
use Rattle.std.proofs.Common.{◌≡◌, ℕ, List, [], ◌∷◌, length, get_or, map, Option, None, Some, refl}
use Rattle.std.proofs.Common.{sym, ap, ◌∙◌, arith, IsSomeAnd, slice_get, unwrap_or, option_map}
use Rattle.std.proofs.Common.{drop, inl, inr}
use Rattle.std.specs.Option.{option_map_or}
use Rattle.std.proofs.lemmas.Bool.Decides.{nat_tests}
use Rattle.std.proofs.lemmas.Option.{slice_get_cases, slice_get_past}
use Rattle.bip_model.specs.declared.numbering.PortId.{PortId}
use Rattle.bip_model.specs.declared.parts.Component.{Component}
use Rattle.bip_model.specs.declared.parts.System.{System}
use Rattle.bip_model.specs.declared.parts.Transition.{Transition}
use Rattle.bip_model.specs.declared.states.LocalState.{LocalState}
use Rattle.bip_model.specs.Laws.{StatesLeadToStates}
use Rattle.bip_model.specs.Components.{moved, transition_for}
use Rattle.bip_model.specs.Expressions.{counts, updated}
use Rattle.bip_model.specs.Parts.{IsComponent, IsSystem, IsTransitionOf, Participant, count_of}
use Rattle.bip_model.specs.Parts.{counts_of}
use Rattle.bip_model.specs.States.{IsLocalStateOf, IsStateOf, State, with_values}
use Rattle.bip_model.specs.Steps.{led, led_all, participants_of, start_of, told_all, transfer_of}
use Rattle.bip_model.specs.Steps.{values_at, values_of}
use Rattle.bip_model.proofs.ExpressionLemmas.{counts-transferred, length-updated}
use Rattle.bip_model.proofs.ListLemmas.{All-find, All-slice_get}
use Rattle.bip_model.proofs.StepLemmas.{after_led, all_told, told_in}

-- a transition leads to a local state of its component, whose values may have been told it
pub moved_valid : (k : Component) (local : LocalState) (port : PortId) (target : LocalState)
    → IsComponent k
    → length local.values ≡ length k.variables → moved k local port ≡ Some target
    → IsLocalStateOf k target
moved_valid k local port target sound count is =
    by_transition (transition_for k local.location port) refl is
  where
    by_transition : (o : Option Transition) → transition_for k local.location port ≡ o
        → option_map (λ (t : Transition). record {
          location = t.target;
          values = updated t.update local.values;
        }) o ≡ Some target → IsLocalStateOf k target
    by_transition None found at = cc
    by_transition (Some t) found at =
        let joins : IsTransitionOf k t = All-find
        (IsTransitionOf k) _ k.transitions t sound.so_far.transitions found in
        let same : record { location = t.target; values = updated t.update local.values } ≡ target =
        cc in
        rw (← same) (record {
          location = joins.target;
          values = length-updated t.update local.values ∙ count;
        })

-- a component goes from a local state of its own to one
led_valid : (m : System) (c : ℕ) (k : Component) (port : PortId) (local : LocalState) → IsSystem m
    → slice_get m.components c ≡ Some k
    → IsLocalStateOf k local → IsLocalStateOf k (led m c port local)
led_valid m c k port local valid at own =
    rw at (by_target (moved k local port) refl)
  where
    by_target : (o : Option LocalState) → moved k local port ≡ o
        → IsLocalStateOf k (unwrap_or o local)
    by_target None is = own
    by_target (Some target) is = moved_valid k local port target
        (All-slice_get IsComponent m.components c k valid.so_far.components at) own.values is

led_all_valid : (m : System) (s : State) (qs : List Participant) (c : ℕ) (k : Component)
    → IsSystem m → slice_get m.components c ≡ Some k
    → IsSomeAnd (s c) (IsLocalStateOf k) → IsSomeAnd (led_all m s qs c) (IsLocalStateOf k)
led_all_valid m s [] c k valid at own = own
led_all_valid m s (q ∷ qs) c k valid at own =
    let goes : (local : LocalState) → IsLocalStateOf k local
    → IsLocalStateOf k (led m c q.1 local) = λ local. led_valid m c k q.1 local valid at in
    grind (arith, nat_tests, led_all_valid m s qs c k valid at own, goes)

led_all_none : (m : System) (s : State) (qs : List Participant) (c : ℕ) → s c ≡ None
    → led_all m s qs c ≡ None
led_all_none m s [] c none = none
led_all_none m s (q ∷ qs) c none = grind (arith, nat_tests, led_all_none m s qs c none)

-- a component that is told as many values as it has variables stays in a local state of its own
told_all_valid : (m : System) (s : State) (qs : List Participant) (values : List (List ℕ)) (c : ℕ)
    (k : Component) → slice_get m.components c ≡ Some k
    → counts values ≡ counts_of m.components qs → IsSomeAnd (s c) (IsLocalStateOf k)
    → IsSomeAnd (told_all s qs values c) (IsLocalStateOf k)
told_all_valid m s [] values c k at same own = own
told_all_valid m s (q ∷ qs) [] c k at same own = own
told_all_valid m s (q ∷ qs) (v ∷ values) c k at same own =
    let rest = told_all_valid m s qs values c k at (ap (λ (xs : List ℕ). drop 1 xs) same) own in
    let count : q.0.0 ≡ c → length v ≡ length k.variables =
    λ e. ap (λ (xs : List ℕ). get_or xs 0 0) same ∙ rw (e, at) refl in
    let tells : length v ≡ length k.variables → (local : LocalState) → IsLocalStateOf k local
    → IsLocalStateOf k (with_values v local) =
    λ e local of. record { location = of.location; values = e } in
    grind (arith, nat_tests, rest, count, tells)

told_all_none : (s : State) (qs : List Participant) (values : List (List ℕ)) (c : ℕ) → s c ≡ None
    → told_all s qs values c ≡ None
told_all_none s [] values c none = none
told_all_none s (q ∷ qs) [] c none = none
told_all_none s (q ∷ qs) (v ∷ values) c none =
    grind (arith, nat_tests, told_all_none s qs values c none)

-- in a state of the model each participant has a value for each variable
pub count_in : (m : System) (s : State) (q : Participant) → IsStateOf m s
    → length (values_at s q) ≡ count_of m.components q
count_in m s q own =
    elim (slice_get_cases m.components q.0.0).1 [
      | inl here ↦ rw here.2 (of_local here.0 (s q.0.0) (own.components q.0.0 here.0 here.2))
      | inr past ↦ rw (past.1, own.others q.0.0 past.0) refl
    ]
  where
    of_local : (k : Component) (p : Option LocalState) → IsSomeAnd p (IsLocalStateOf k)
        → length (option_map_or (λ (local : LocalState). local.values) p []) ≡ length k.variables
    of_local k None valid = absurd valid
    of_local k (Some local) valid = valid.values

pub counts_in : (m : System) (s : State) (qs : List Participant) → IsStateOf m s
    → counts (map (values_at s) qs) ≡ counts_of m.components qs
counts_in m s [] own = refl
counts_in m s (q ∷ qs) own = rw (count_in m s q own, counts_in m s qs own) refl

-- the first state is one of the model
pub start_is_state : (m : System) (s : State) → IsSystem m → s ≡ start_of m → IsStateOf m s
start_is_state m s valid is = record {
  components = λ c k at. rw (is, at) (record {
    location = (All-slice_get IsComponent m.components c k valid.so_far.components at).located;
    values = (All-slice_get IsComponent m.components c k valid.so_far.components
        at).so_far.started;
  });
  others = λ c past. rw (is, slice_get_past m.components c past) refl;
}

pub states_lead_to_states : (m : System) → IsSystem m → StatesLeadToStates m
states_lead_to_states m valid s a own = record {
  components = λ c k at. rw (← after_led m s a c)
      (led_all_valid m (told_in m s a) (participants_of m a) c k valid at
      (told_all_valid m s (participants_of m a) (all_told m s a) c k at
      (counts-transferred (transfer_of m a) (values_of m s a)
      ∙ counts_in m s (participants_of m a) own) (own.components c k at)));
  others = λ c past. sym (after_led m s a c) ∙ led_all_none m (told_in m s a)
      (participants_of m a) c (told_all_none s (participants_of m a) (all_told m s a) c
      (own.others c past));
}
