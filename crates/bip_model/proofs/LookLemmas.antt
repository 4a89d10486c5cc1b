-- What interactions look at, and that whether they may run depends on what they touch alone.
use Rattle.std.proofs.Common.{◌≡◌, ◌⊎◌, ℕ, ◌<◌, true, false, not, eqb, List, length, inl, inr, refl}
use Rattle.std.proofs.Common.{sym, eqb-true}
use Rattle.std.specs.List.{list_any}
use Rattle.std.proofs.lemmas.Bool.{and_parts, cases_Bool, false≢true, not-true}
use Rattle.std.proofs.lemmas.List.Elements.{All-contains}
use Rattle.std.proofs.lemmas.List.Folds.{Any-from_list_any, list_any-from_Any}
use Rattle.std.proofs.lemmas.Option.{slice_get_cases}
use Rattle.bip_model.specs.declared.numbering.InterId.{InterId}
use Rattle.bip_model.specs.declared.parts.System.{System}
use Rattle.bip_model.specs.Laws.{AgreeOnTouched, MayRunIsLocal, SomethingMayRun}
use Rattle.bip_model.specs.Parts.{IsInteraction, IsPortIn, IsSystem, IsSystemSoFar, Participant}
use Rattle.bip_model.specs.Priorities.{HasAbove, IsListAbove, inter}
use Rattle.bip_model.specs.States.{State}
use Rattle.bip_model.specs.Steps.{IsEnabled, IsLookedAt, MayRun, looks_at, moves}
use Rattle.bip_model.proofs.AboveLemmas.{HasAbove-trans}
use Rattle.bip_model.proofs.ClimbLemmas.{Decided, HasAbove-decided, IsUpTo, highest, up_to_decided}
use Rattle.bip_model.specs.declared.parts.Pair.{Pair}
use Rattle.bip_model.proofs.LawLemmas.{enabled-agree}
use Rattle.bip_model.proofs.ListLemmas.{All-slice_get}
use Rattle.bip_model.proofs.StepLemmas.{enabled_or_not}

-- what the test finds is looked at
pub looked_at : (m : System) (a c : ℕ) (above : List InterId) → IsListAbove m.priorities a above
    → looks_at m a above c ≡ true → IsLookedAt m a c
looked_at m a c above list test =
    let parts = and_parts (not (moves m a c))
    (list_any (λ (b : InterId). moves m b.0 c) above) test in
    let at = Any-from_list_any (λ (b : InterId). moves m b.0 c) above parts.1 in
    record {
      other = not-true (moves m a c) parts.0;
      higher = at.1.0;
      above = (list.exact at.1.0).0 (at.0, at.2, at.3);
      moved = at.4;
    }

pub looks_where : (m : System) (a c : ℕ) (above : List InterId) → IsListAbove m.priorities a above
    → IsLookedAt m a c → looks_at m a above c ≡ true
looks_where m a c above list is =
    let at = (list.exact is.higher).1 is.above in
    rw (
      is.other,
      list_any-from_Any (λ (b : InterId). moves m b.0 c) above (
        at.0,
        inter is.higher,
        at.1,
        at.2,
        is.moved,
      ),
    ) refl

-- what an interaction moves is a component of the model
pub moves_known : (m : System) (a c : ℕ) → IsSystemSoFar m → moves m a c ≡ true
    → c < length m.components
moves_known m a c valid takes = elim (slice_get_cases m.interactions a).1 [
  | inl here ↦
      let i = All-slice_get (IsInteraction m.components) m.interactions a here.0 valid.interactions
      here.2 in
      let own : list_any (λ (q : Participant). eqb q.0.0 c) here.0.participants ≡ true =
      rw here.2 at takes in
      let at = Any-from_list_any (λ (q : Participant). eqb q.0.0 c) here.0.participants own in
      let known : IsPortIn m.components at.1 =
      All-contains (IsPortIn m.components) here.0.participants at.1 i.ports
      (at.0, at.2, at.3) in
      rw (← eqb-true at.1.0.0 c at.4) known.component
  | inr past ↦ let none : false ≡ true = rw past.1 at takes in absurd (false≢true none)
]

pub looked_known : (m : System) (a c : ℕ) → IsSystemSoFar m → IsLookedAt m a c
    → c < length m.components
looked_known m a c valid is = moves_known m is.higher c valid is.moved

-- whether an interaction stands there or above, and is enabled
test : (m : System) (s : State) (a b : ℕ) → Decided (IsUpTo m.priorities a b × IsEnabled m s b)
test m s a b = elim (up_to_decided a b (HasAbove-decided m.priorities a b)) [
  | inr apart ↦ inr (λ both. apart both.0)
  | inl up ↦ elim (enabled_or_not m s b) [
    | inl on ↦ inl (up, on)
    | inr off ↦ inr (λ both. off both.1)
  ]
]

beyond : {pairs : List Pair} {a b d : ℕ} → IsUpTo pairs a b → HasAbove pairs b d → IsUpTo pairs a d
beyond (inl same) above = inr (rw same above)
beyond (inr up) above = inr (HasAbove-trans up above)

pub something_may_run : (m : System) → IsSystem m → SomethingMayRun m
something_may_run m valid s a enabled =
    let (b, can, free) = highest m.priorities valid.acyclic
    (λ b. IsUpTo m.priorities a b × IsEnabled m s b) (test m s a) a (inl refl, enabled) in (
      b,
      can.0,
      record {
        enabled = can.1;
        clear = λ d above on. free d above (
          beyond can.0 above,
          on,
        );
      },
    )

-- what may run may run in each state that agrees on what it touches
may_agree : (m : System) (s t : State) (a : ℕ) → AgreeOnTouched m a s t → MayRun m s a
    → MayRun m t a
may_agree m s t a agree may = record {
  enabled = enabled-agree m s t a (λ c takes. agree c (inl takes)) may.enabled;
  clear = λ b above enabled. may.clear b above
      (enabled-agree m t s b (λ c takes. sym (agree c (touched b above c takes))) enabled);
}
  where
    touched : (b : ℕ) → HasAbove m.priorities a b → (c : ℕ) → moves m b c ≡ true
        → (moves m a c ≡ true) ⊎ IsLookedAt m a c
    touched b above c takes = elim (cases_Bool (moves m a c)) [
      | inl own ↦ inl own
      | inr other ↦ inr (record { other = other; higher = b; above = above; moved = takes })
    ]

pub may_run_is_local : (m : System) → MayRunIsLocal m
may_run_is_local m s t a agree = (
  may_agree m s t a agree,
  may_agree m t s a (λ c touched. sym (agree c touched)),
)
