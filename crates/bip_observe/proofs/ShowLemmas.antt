-- Offers that show a state enable just what is enabled there.
use Rattle.std.proofs.Common.{◌≡◌, ◌⊎◌, ℕ, ◌<◌, Bool, true, false, not, cond, eqb, eq-eqb, List, []}
use Rattle.std.proofs.Common.{◌∷◌, length, map, All, get_or, find, Option, None, Some, inl, inr}
use Rattle.std.proofs.Common.{refl, sym, ◌∙◌, subst, slice_get}
use Rattle.std.specs.Prelude.{IsSomeAnd, IsTrue}
use Rattle.std.proofs.lemmas.Bool.{cases_Bool, false≢true, not-true}
use Rattle.std.proofs.lemmas.List.Elements.{All-contains, All-head, All-tail, All-weaker}
use Rattle.std.proofs.lemmas.List.Folds.{list_any_at}
use Rattle.bip_model.specs.Components.{offers_at}
use Rattle.bip_model.specs.Messages.{Shows, ShowsState}
use Rattle.bip_model.specs.Parties.{HasWantOf, Cover}
use Rattle.bip_model.specs.Parts.{Participant}
use Rattle.bip_model.specs.declared.wants.Want.{Want}
use Rattle.bip_model.specs.Priorities.{HasAbove}
use Rattle.bip_model.specs.Sets.{has}
use Rattle.bip_model.specs.States.{State}
use Rattle.bip_model.specs.Steps.{IsEnabled, MayRun, guard_of, moves, offered, participants_of}
use Rattle.bip_model.specs.Steps.{values_at, values_of}
use Rattle.bip_model.specs.declared.messages.Offer.{Offer}
use Rattle.bip_model.specs.declared.parts.System.{System}
use Rattle.bip_model.specs.declared.states.LocalState.{LocalState}
use Rattle.bip_model.proofs.AboveLemmas.{HasAbove-high}
use Rattle.bip_model.proofs.ListLemmas.{found_at, not_found}
use Rattle.bip_partition.specs.Plans.{Touches}
use Rattle.bip_model.specs.Expressions.{holds}
use Rattle.bip_observe.specs.Laws.{AllShow, IsNotOffered, IsInSet, MayRunMeansReady, OfferedValues}
use Rattle.bip_observe.specs.Laws.{ReadyMeansMayRun}
use Rattle.bip_observe.specs.Verdicts.{ArePortsOn, Enable, Exclude, IsOff, IsReady, guard_holds}
use Rattle.bip_observe.specs.Verdicts.{port_on}

-- a bit is 1 where a test passes
bit_tests : (b : Bool) → eqb (cond b 1 0) 1 ≡ b
bit_tests true = refl
bit_tests false = refl

-- an offer that shows a state is on for what is offered there
shown_port : (m : System) (s : State) (q : Participant) (offer : Offer) → offer.comp.0 ≡ q.0.0
    → ShowsState m s offer → has offer.ports q.1.0 ≡ offered m s q
shown_port m s q offer own shows = by_local (s q.0.0) refl
    (subst (λ (n : ℕ). IsSomeAnd (s n) (Shows m offer)) own shows)
  where
    by_local : (o : Option LocalState) → s q.0.0 ≡ o → IsSomeAnd o (Shows m offer)
        → has offer.ports q.1.0 ≡ offered m s q
    by_local None is none = absurd none
    by_local (Some local) is shows =
        let declared : slice_get m.components q.0.0 ≡ Some shows.component =
        rw own at shows.declared in
        rw (declared, is, shows.ports q.1) (bit_tests (offers_at shows.component local q.1))

-- and has the values that its component has there
shown_values : (m : System) (s : State) (q : Participant) (offer : Offer) → offer.comp.0 ≡ q.0.0
    → ShowsState m s offer → offer.values ≡ values_at s q
shown_values m s q offer own shows = by_local (s q.0.0) refl
    (subst (λ (n : ℕ). IsSomeAnd (s n) (Shows m offer)) own shows)
  where
    by_local : (o : Option LocalState) → s q.0.0 ≡ o → IsSomeAnd o (Shows m offer)
        → offer.values ≡ values_at s q
    by_local None is none = absurd none
    by_local (Some local) is shows = rw is shows.values

-- the offer of a component is its own, and shows a state
pub record IsShown (m : System) (o : ℕ → Offer) (s : State) (c : ℕ) : Type 0 where
  pub own : (o c).comp.0 ≡ c
  pub shows : ShowsState m s (o c)

-- so it is for all participants of an interaction
abbrev pub AreShown : System → (ℕ → Offer) → State → ℕ → Type 0
AreShown m o s a = All (λ (q : Participant). IsShown m o s q.0.0) (participants_of m a)

same_values : (m : System) (o : ℕ → Offer) (s : State) (qs : List Participant)
    → All (λ (q : Participant). IsShown m o s q.0.0) qs
    → map (λ (q : Participant). (o q.0.0).values) qs ≡ map (values_at s) qs
same_values m o s [] shown = refl
same_values m o s (q ∷ qs) shown =
    let first = All-head (λ (r : Participant). IsShown m o s r.0.0) q qs shown in
    rw (
      shown_values m s q (o q.0.0) first.own first.shows,
      same_values m o s qs (All-tail (λ (r : Participant). IsShown m o s r.0.0) q qs shown),
    ) refl

-- what offers enable is enabled in the state that they show
pub enabled_there : (m : System) (o : ℕ → Offer) (s : State) (a : ℕ) → a < length m.interactions
    → AreShown m o s a → Enable m o a → IsEnabled m s a
enabled_there m o s a declared shown enable = record {
  declared = declared;
  offered_all = λ k d within.
      let q = get_or (participants_of m a) k d in
      rw (shown_port m s q (o q.0.0) (shown k d within).own (shown k d within).shows) at
      (enable.ports k d within);
  guard = rw (same_values m o s (participants_of m a) shown) at enable.guard;
}

-- and the other way round
pub enabled_here : (m : System) (o : ℕ → Offer) (s : State) (a : ℕ) → AreShown m o s a
    → IsEnabled m s a → Enable m o a
enabled_here m o s a shown enabled = record {
  ports = λ k d within.
      let q = get_or (participants_of m a) k d in
      rw (shown_port m s q (o q.0.0) (shown k d within).own (shown k d within).shows)
      (enabled.offered_all k d within);
  guard = rw (same_values m o s (participants_of m a) shown) enabled.guard;
}

-- an interaction moves the components of its participants
pub moves_each : (m : System) (a : ℕ) → All (λ (q : Participant). moves m a q.0.0 ≡ true)
    (participants_of m a)
moves_each m a k d within =
    let q = get_or (participants_of m a) k d in
    list_any_at (λ (r : Participant). eqb r.0.0 q.0.0) (participants_of m a) k d within
    (eq-eqb q.0.0 q.0.0 refl)

-- it touches what one above it moves
pub touches_higher : (m : System) (a b c : ℕ) → HasAbove m.priorities a b → moves m b c ≡ true
    → Touches m a c
touches_higher m a b c above takes = elim (cases_Bool (moves m a c)) [
  | inl own ↦ inl own
  | inr other ↦ inr (record { other = other; higher = b; above = above; moved = takes })
]

pub shown_own : (m : System) (o : ℕ → Offer) (of : ℕ → Type 0) (s : State) (a : ℕ)
    → ((c : ℕ) → of c → (o c).comp.0 ≡ c) → AllShow m o of s → ((c : ℕ) → moves m a c ≡ true → of c)
    → AreShown m o s a
shown_own m o of s a own show all k d within =
    let its = all _ (moves_each m a k d within) in
    record { own = own _ its; shows = show _ its }

-- where a guard doesn't hold, it does not
pub guard_both : (m : System) (o : ℕ → Offer) (a : ℕ) → guard_holds m o a ≡ false
    → IsTrue (guard_holds m o a) → ⊥
guard_both m o a not_so so = false≢true (sym not_so ∙ so)

-- what offers exclude isn't enabled in the state that they show
pub excluded_there : (m : System) (o : ℕ → Offer) (of : ℕ → Type 0) (s : State) (b : ℕ)
    → ((c : ℕ) → of c → (o c).comp.0 ≡ c) → AllShow m o of s → Exclude m o of b → ¬ IsEnabled m s b
excluded_there m o of s b own show (inl at) enabled =
    let q = at.1 in
    let on = All-contains (λ (r : Participant). IsTrue (offered m s r))
    (participants_of m b) q enabled.offered_all (at.0, at.2, at.3) in
    false≢true (sym at.4.1 ∙ (shown_port m s q (o q.0.0) (own q.0.0 at.4.0) (show q.0.0 at.4.0)
    ∙ on))
excluded_there m o of s b own show (inr both) enabled =
    let shown : AreShown m o s b = λ k d within.
    record { own = own _ (both.0 k d within); shows = show _ (both.0 k d within) } in
    guard_both m o b both.1 (enabled_here m o s b shown enabled).guard

-- and what they exclude is covered there by wants of their components
pub covered_there : (m : System) (o : ℕ → Offer) (wants : List Want) (s : State) (b : ℕ)
    → ((c : ℕ) → HasWantOf wants c → (o c).comp.0 ≡ c) → AllShow m o (HasWantOf wants) s
    → Exclude m o (HasWantOf wants) b → Cover m s wants b
covered_there m o wants s b own show (inl at) =
    let q = at.1 in
    inl (
      at.0,
      q,
      at.2,
      at.3,
      (
        at.4.0,
        sym (shown_port m s q (o q.0.0) (own q.0.0 at.4.0)
            (show q.0.0 at.4.0)) ∙ at.4.1,
      ),
    )
covered_there m o wants s b own show (inr both) = inr both.0

pub ready_may_run : (m : System) (o : ℕ → Offer) (of : ℕ → Type 0) (s : State) (a : ℕ)
    → IsReady m o of a → AllShow m o of s → MayRun m s a
ready_may_run m o of s a ready show = record {
  enabled = enabled_there m o s a ready.declared
      (shown_own m o of s a ready.own show ready.moved) ready.enabled;
  clear = λ b above. excluded_there m o of s b ready.own show (ready.clear b above);
}

-- a test that doesn't fail passes
pub passes : (b : Bool) → not b ≡ false → b ≡ true
passes true is = refl
passes false is = sym is

-- offers of all participants enable an interaction, or exclude it
pub enable_or_exclude : (m : System) (o : ℕ → Offer) (of : ℕ → Type 0) (b : ℕ)
    → All (λ (q : Participant). of q.0.0) (participants_of m b) → Enable m o b ⊎ Exclude m o of b
enable_or_exclude m o of b all = by_find (find test (participants_of m b)) refl
  where
    test : Participant → Bool
    test q = not (port_on o q)

    by_find : (found : Option Participant) → find test (participants_of m b) ≡ found → Enable m o b
        ⊎ Exclude m o of b
    by_find (Some q) is =
        let found = found_at test (participants_of m b) q is in
        inr (inl (
          found.0.0,
          q,
          found.0.1,
          found.0.2,
          (
            All-contains (λ (r : Participant). of r.0.0) (participants_of m b) q all found.0,
            not-true (port_on o q) found.1,
          ),
        ))
    by_find None is =
        let on = All-weaker (λ q. test q ≡ false) (λ q. IsTrue (port_on o q))
        (λ q fails. passes (port_on o q) fails) (participants_of m b)
        (not_found test (participants_of m b) is) in
        elim (cases_Bool (guard_holds m o b)) [
          | inr not_so ↦ inr (inr (all, not_so))
          | inl so ↦ inl (record { ports = on; guard = so })
        ]

pub ready_means : ReadyMeansMayRun
ready_means m o set s a ready show = ready_may_run m o (IsInSet set) s a ready show

-- offers of all participants exclude an interaction that isn't enabled there
excluded_here : (m : System) (o : ℕ → Offer) (of : ℕ → Type 0) (s : State) (b : ℕ)
    → b < length m.interactions → AreShown m o s b
    → All (λ (q : Participant). of q.0.0) (participants_of m b) → ¬ IsEnabled m s b
    → Exclude m o of b
excluded_here m o of s b declared shown all idle = elim (enable_or_exclude m o of b all) [
  | inl enable ↦ absurd (idle (enabled_there m o s b declared shown enable))
  | inr exclude ↦ exclude
]

pub may_run_ready : MayRunMeansReady
may_run_ready m valid o s a own show may = record {
  declared = may.enabled.declared;
  moved = λ c takes. inl takes;
  own = own;
  enabled = enabled_here m o s a (shown_own m o (Touches m a) s a own show (λ c takes. inl takes))
      may.enabled;
  clear = λ b above.
      let declared = HasAbove-high (length m.interactions) m.priorities a b valid.so_far.priorities
      above in
      let all : (c : ℕ) → moves m b c ≡ true → Touches m a c =
      λ c takes. touches_higher m a b c above takes in
      excluded_here m o (Touches m a) s b declared (shown_own m o (Touches m a) s b own show all)
      (λ k d within. all _ (moves_each m b k d within)) (may.clear b above);
}

pub offered_values : OfferedValues
offered_values m o s a own show =
    same_values m o s (participants_of m a) (λ k d within. let on = moves_each m a k d within in
    record { own = own _ on; shows = show _ on })

-- a port is off where it isn't offered, and the other way round
pub off_there : (m : System) (o : ℕ → Offer) (s : State) (a c : ℕ) → AreShown m o s a
    → IsOff m o a c → IsNotOffered m s a c
off_there m o s a c shown (k, q, within, is, off) =
    let its : IsShown m o s q.0.0 = rw is at (shown k q within) in
    (k, q, within, is, (off.0, sym (shown_port m s q (o q.0.0) its.own its.shows) ∙ off.1))

pub off_here : (m : System) (o : ℕ → Offer) (s : State) (a c : ℕ) → AreShown m o s a
    → IsNotOffered m s a c → IsOff m o a c
off_here m o s a c shown (k, q, within, is, off) =
    let its : IsShown m o s q.0.0 = rw is at (shown k q within) in
    (k, q, within, is, (off.0, shown_port m s q (o q.0.0) its.own its.shows ∙ off.1))

-- where all ports are on, and the guard is false, it is so in the state
pub guard_there : (m : System) (o : ℕ → Offer) (s : State) (a : ℕ) → AreShown m o s a
    → ArePortsOn m o a → guard_holds m o a ≡ false
    → All (λ (q : Participant). IsTrue (offered m s q)) (participants_of m a)
    × (holds (guard_of m a) (values_of m s a) ≡ false)
guard_there m o s a shown on not_so = (
  λ k d within.
      let q = get_or (participants_of m a) k d in
      rw (shown_port m s q (o q.0.0) (shown k d within).own (shown k d within).shows) at
      (on k d within),
  rw (same_values m o s (participants_of m a) shown) at not_so,
)
