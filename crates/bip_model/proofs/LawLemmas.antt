-- The laws of the joint step.
use Rattle.std.proofs.Common.{rules, ◌≡◌, ℕ, true, false, eqb, List, [], ◌∷◌, length, map, All}
use Rattle.std.proofs.Common.{get_or, Option, None, Some, refl, sym, ap, ◌∙◌, inl, inr, arith}
use Rattle.std.proofs.Common.{eq-eqb, eqb-true, slice_get}
use Rattle.std.specs.Option.{option_map, option_map_or}
use Rattle.std.specs.List.Sorted.{IsStrictlyIncreasing}
use Rattle.std.proofs.Math.Path.{fun_ext}
use Rattle.std.proofs.lemmas.List.Folds.{list_any_at}
use Rattle.std.proofs.lemmas.List.Elements.{All-head, All-tail}
use Rattle.std.proofs.lemmas.Option.{get_or_from_slice_get, slice_get_cases, slice_get_within}
use Rattle.std.proofs.lemmas.Bool.{ne_eqb, and_parts, cases_Bool, false_from_ne_true, false≢true}
use Rattle.bip_model.specs.declared.parts.Component.{Component}
use Rattle.bip_model.specs.declared.parts.System.{System}
use Rattle.bip_model.specs.declared.parts.Transition.{Transition}
use Rattle.bip_model.specs.declared.states.LocalState.{LocalState}
use Rattle.bip_model.specs.Laws.{AgreeOn, CanGo, Commute, EnabledWhereAllCanGo, EndsAfterItsLast}
use Rattle.bip_model.specs.Laws.{GoesOnByWhatMayRun, IsItsTransition, IsLocal, OffersWhereItCanGo}
use Rattle.bip_model.specs.Laws.{OneTransition, OthersStay, ParticipantsGo}
use Rattle.bip_model.specs.Components.{leaves, transition_for, offers_at}
use Rattle.bip_model.specs.Expressions.{holds}
use Rattle.bip_model.proofs.ListLemmas.{All-slice_get, below_later, find_first, found_at}
use Rattle.bip_model.proofs.ListLemmas.{position_first, position_none}
use Rattle.bip_model.specs.States.{IsLocalStateOf, IsStateOf, State, with_values}
use Rattle.bip_model.specs.Steps.{IsEnabled, after, led, moves, offered, participants_of, told}
use Rattle.bip_model.specs.Steps.{values_at, values_of}
use Rattle.bip_model.specs.Parts.{IsComponent, IsSystem, IsInteraction, Participant, components_in}

pub others_stay : (m : System) → OthersStay m
others_stay m s a c none = rw (position_none (λ (q : Participant). eqb q.0.0 c)
    (participants_of m a) none) refl

-- the participants of an interaction of a model stand by component
pub rising_of : (m : System) (a : ℕ) → IsSystem m
    → IsStrictlyIncreasing (components_in (participants_of m a))
rising_of m a valid = elim (slice_get_cases m.interactions a).1 [
  | inl here ↦
      rw here.2 (All-slice_get (IsInteraction m.components) m.interactions a here.0
      valid.so_far.interactions here.2).rising
  | inr past ↦ rw past.1 (λ k below. absurd (omega arith))
]

-- a participant of an interaction of a model goes by its port, with what it is told
pub after-member : (m : System) (s : State) (a i : ℕ) (q : Participant) → IsSystem m
    → slice_get (participants_of m a) i ≡ Some q
    → after m s a q.0.0 ≡ option_map (λ local. led m q.0.0 q.1 (with_values (told m s a i) local))
    (s q.0.0)
after-member m s a i q valid at =
    let within = slice_get_within (participants_of m a) i q at in
    let is = get_or_from_slice_get (participants_of m a) i q q at in
    let place = position_first (λ (r : Participant). eqb r.0.0 q.0.0)
    (participants_of m a) i q within (rw is (eq-eqb q.0.0 q.0.0 refl))
    (λ k early. ne_eqb _ _ (λ same.
    omega (
      arith,
      same,
      ap (λ (r : Participant). r.0.0) is,
      below_later (λ (r : Participant). r.0.0) (participants_of m a)
          (rising_of m a valid) k i q early within,
    ))) in
    rw (place, at) refl

-- the one transition of a participant is the one that is found
transition_found : (m : System) (s : State) (q : Participant) (local : LocalState) (t : Transition)
    → IsSystem m → (its : IsItsTransition m s q local t)
    → transition_for its.component local.location q.1 ≡ Some t
transition_found m s q local t valid its =
    let sound : IsComponent its.component = All-slice_get IsComponent m.components q.0.0
    its.component valid.so_far.components its.declared in
    let member = its.declares in
    find_first (leaves local.location q.1) its.component.transitions member.0 t t member.1
    (sym member.2) (rw (
      eq-eqb t.source.0 local.location.0 its.source,
      eq-eqb t.port.0 q.1.0 its.port,
    ) refl)
    (λ i early. cc (
      sound.so_far.one_each i member.0 t early member.1,
      member.2,
      its.source,
      its.port,
    ))

pub participants_go : (m : System) → IsSystem m → ParticipantsGo m
participants_go m valid s a i q local t at its =
    rw (
      after-member m s a i q valid at,
      its.at,
      its.declared,
      transition_found m s q local t valid its,
    ) refl

pub one_transition : (m : System) → IsSystem m → OneTransition m
one_transition m valid s q local other t u its theirs =
    let same_component : theirs.component ≡ its.component = cc in
    let same_local : other ≡ local = cc in
    let first = transition_found m s q local t valid its in
    let second = rw (same_component, same_local) at (transition_found m s q other u valid theirs) in
    cc

-- a participant whose port is offered can go
can_go : (m : System) (s : State) (q : Participant) (declared : Option Component)
    (at : Option LocalState) → slice_get m.components q.0.0 ≡ declared → s q.0.0 ≡ at
    → option_map_or (λ component. option_map_or (λ local. offers_at component local q.1) at false)
    declared false ≡ true → CanGo m s q
can_go m s q None at is_declared is_at offers = absurd (false≢true offers)
can_go m s q (Some component) None is_declared is_at offers = absurd (false≢true offers)
can_go m s q (Some component) (Some local) is_declared is_at offers =
    by_transition (transition_for component local.location q.1) refl
    (and_parts (eqb (length local.values) (length component.variables)) _ offers).1
  where
    by_transition : (o : Option Transition) → transition_for component local.location q.1 ≡ o
        → option_map_or (λ (t : Transition). holds t.guard (local.values ∷ [])) o false ≡ true
        → CanGo m s q
    by_transition None found holds = absurd (false≢true holds)
    by_transition (Some t) found holds =
        let here = found_at (leaves local.location q.1) component.transitions t found in
        let both = and_parts (eqb t.source.0 local.location.0) (eqb t.port.0 q.1.0) here.1 in (
          local,
          t,
          record {
            component = component;
            declared = is_declared;
            declares = here.0;
            port = eqb-true t.port.0 q.1.0 both.1;
            at = is_at;
            source =
                eqb-true t.source.0 local.location.0 both.0;
          },
          holds,
        )

-- the port of a participant that can go is offered, where it has a value for each variable
offered_where : (m : System) (s : State) (q : Participant) → IsSystem m → IsStateOf m s
    → CanGo m s q → offered m s q ≡ true
offered_where m s q valid own go =
    let its = go.2 in
    let local : IsLocalStateOf its.component go.0 =
    rw its.at at (own.components q.0.0 its.component its.declared) in
    rw (
      its.declared,
      its.at,
      transition_found m s q go.0 go.1 valid its,
      eq-eqb (length go.0.values) (length its.component.variables) local.values,
    ) go.3

-- a participant's port is offered just where it can go
pub offers_where : (m : System) → IsSystem m → OffersWhereItCanGo m
offers_where m valid s q = (can_go m s q _ _ refl refl, offered_where m s q valid)

pub enabled_where : (m : System) → IsSystem m → EnabledWhereAllCanGo m
enabled_where m valid s a = (
  λ enabled. record {
    declared = enabled.declared;
    each = λ k d within. can_go m s _ _ _ refl refl (enabled.offered_all k d within);
    guard =
        enabled.guard;
  },
  λ own go. record {
    declared = go.declared;
    offered_all = λ k d within. offered_where m s _ valid own (go.each k d within);
    guard =
        go.guard;
  },
)

-- states that agree on participants have the same values of them
same_values : (s t : State) (qs : List Participant)
    → All (λ (q : Participant). s q.0.0 ≡ t q.0.0) qs → map (values_at s) qs ≡ map (values_at t) qs
same_values s t [] same = refl
same_values s t (q ∷ qs) same =
    rw (
      All-head (λ (r : Participant). s r.0.0 ≡ t r.0.0) q qs same,
      same_values s t qs (All-tail (λ (r : Participant). s r.0.0 ≡ t r.0.0) q qs same),
    ) refl

-- so do states that agree on what an interaction moves
agree_each : (m : System) (s t : State) (a : ℕ) → AgreeOn m a s t
    → All (λ (q : Participant). s q.0.0 ≡ t q.0.0) (participants_of m a)
agree_each m s t a agree = λ k d within.
    let q = get_or (participants_of m a) k d in
    agree q.0.0 (list_any_at (λ (r : Participant). eqb r.0.0 q.0.0) (participants_of m a) k d within
    (eq-eqb q.0.0 q.0.0 refl))

agree_values : (m : System) (s t : State) (a : ℕ) → AgreeOn m a s t
    → values_of m s a ≡ values_of m t a
agree_values m s t a agree = same_values s t (participants_of m a) (agree_each m s t a agree)

-- what an interaction does to a component depends on where that one is, and on what it moves
pub after-same : (m : System) (s t : State) (a c : ℕ) → AgreeOn m a s t → s c ≡ t c
    → after m s a c ≡ after m t a c
after-same m s t a c agree same = rw (agree_values m s t a agree, same) refl

-- an interaction that is enabled is so in each state that agrees on what it moves
pub enabled-agree : (m : System) (s t : State) (a : ℕ) → AgreeOn m a s t → IsEnabled m s a
    → IsEnabled m t a
enabled-agree m s t a agree enabled = record {
  declared = enabled.declared;
  offered_all = λ k d within. rw (agree_each m s t a agree k d within) at
      (enabled.offered_all k d within);
  guard = rw (agree_values m s t a agree) at enabled.guard;
}

pub is_local : (m : System) → IsLocal m
is_local m s t a agree = (
  (enabled-agree m s t a agree, enabled-agree m t s a (λ c takes. sym (agree c takes))),
  λ c takes. after-same m s t a c agree (agree c takes),
)

pub commute : (m : System) → Commute m
commute m s a b apart = (
  (
    enabled-agree m (after m s a) s b stay,
    enabled-agree m s (after m s a) b (λ c takes.
        sym (stay c takes)),
  ),
  fun_ext same,
)
  where
    stay : AgreeOn m b (after m s a) s
    stay c takes = others_stay m s a c (false_from_ne_true (moves m a c)
        (λ also. false≢true (sym (apart c also) ∙ takes)))

    same : (c : ℕ) → after m (after m s a) b c ≡ after m (after m s b) a c
    same c = elim (cases_Bool (moves m a c)) [
      | inl takes ↦ others_stay m (after m s a) b c (apart c takes)
          ∙ after-same m s (after m s b) a c (λ d takes'.
          sym (others_stay m s b d (apart d takes'))) (sym (others_stay m s b c (apart c takes)))
      | inr rests ↦ after-same m (after m s a) s b c stay (others_stay m s a c rests)
          ∙ sym (others_stay m (after m s b) a c rests)
    ]

-- runs from the back
pub ends_after : (m : System) → EndsAfterItsLast m
ends_after m s [] a = refl
ends_after m s (b ∷ bs) a = ends_after m (after m s b) bs a

pub goes_on : (m : System) → GoesOnByWhatMayRun m
goes_on m s [] a = assumption
goes_on m s (b ∷ bs) a =
    let rest = goes_on m (after m s b) bs a in
    search (rules, rest.0, rest.1)
