-- What forks and tables hold: the used numbers of all grants, by what each fork and table has.
use Rattle.std.proofs.Common.{◌≡◌, ℕ, suc, ◌<◌, ◌≤◌, true, ◌&&◌, eqb, eqb-true, get_or, List, []}
use Rattle.std.proofs.Common.{◌∷◌, ◌++◌, Option, Some, refl, sym, ap, ◌∙◌, inl, inr, arith}
use Rattle.std.specs.Prelude.{◌⊎◌, Any, Contains}
use Rattle.std.proofs.lemmas.Bool.{and_parts, cases_eq, cases_lt, cond_both}
use Rattle.std.proofs.lemmas.List.{get_or_default}
use Rattle.std.proofs.lemmas.List.Elements.{All-contains}
use Rattle.bip_model.proofs.HistoryLemmas.{greatest_used, used_by-push}
use Rattle.bip_model.specs.Parties.{AreParties}
use Rattle.bip_model.specs.Steps.{moves}
use Rattle.bip_model.specs.Wants.{IsFresh, is_moved, moved_in}
use Rattle.bip_model.specs.declared.grants.Grant.{Grant}
use Rattle.bip_model.specs.declared.parts.System.{System}
use Rattle.bip_model.specs.declared.wants.Role.{Role}
use Rattle.bip_model.specs.declared.wants.Role.TheVariants.{Moved, Seen}
use Rattle.bip_model.specs.declared.wants.Want.{Want}
use Rattle.bip_partition.specs.Plans.{Touches}
use Rattle.bip_table.specs.Reservations.{IsDecision, IsUsedUp}
use Rattle.bip_table.specs.declared.reservations.Decision.{Decision}
use Rattle.bip_table.specs.declared.reservations.Decision.TheVariants.{Granted, Refused}
use Rattle.bip_bank.specs.Laws.{IsAllowed}
use Rattle.bip_forks.specs.Machines.{AreRaised, AtBoth, AtStation, LyingFork, HasAll, Holds, IsNet}
use Rattle.bip_forks.specs.Machines.{Net, Owns, ShareFork, used_by_all}

-- a want that moves a component, where wants move it
pub record Moving (ws : List Want) (c : ℕ) : Type 0 where
  pub wanted : Any (λ (w : Want). (w.comp.0 ≡ c) × (w.role ≡ Moved)) ws

role_is : (role : Role) → is_moved role ≡ true → role ≡ Moved
role_is Moved moved = refl
role_is Seen moved = cc

moving : (ws : List Want) (c : ℕ) → 0 < moved_in ws c → Moving ws c
moving [] c some = absurd (omega arith)
moving (w ∷ ws) c some =
    cond_both (eqb w.comp.0 c && is_moved w.role) w.number (moved_in ws c)
    (λ m. 0 < m → Moving (w ∷ ws) c)
    (λ both number. let parts = and_parts (eqb w.comp.0 c) (is_moved w.role) both in
    record {
      wanted = (
        0,
        w,
        omega arith,
        refl,
        (eqb-true w.comp.0 c parts.0, role_is w.role parts.1),
      );
    })
    (λ other at. let by = (moving ws c at).wanted in
    record { wanted = (suc by.0, by.1, omega (arith, by.2), by.3, by.4) }) some

-- a grant that moves a component is of an interaction that does
pub grant_moves : (m : System) (a : ℕ) (ws : List Want) (c : ℕ) → AreParties m a ws
    → 0 < moved_in ws c → moves m a c ≡ true
grant_moves m a ws c parties some = (parties.moved c).0 ((moving ws c some).wanted)

-- a component that is wanted is touched
pub want_touches : (m : System) (a : ℕ) (ws : List Want) (c : ℕ) → AreParties m a ws
    → Any (λ (w : Want). w.comp.0 ≡ c) ws → Touches m a c
want_touches m a ws c parties at = by_role at.1.role refl
  where
    by_role : (r : Role) → at.1.role ≡ r → Touches m a c
    by_role Moved role = inl ((parties.moved c).0 (at.0, at.1, at.2, at.3, (at.4, role)))
    by_role Seen role = inr (parties.seen c (at.0, at.1, at.2, at.3, (at.4, role)))

-- the used number is at most what is at least the base and each number of a grant
pub used_least : (n : Net) (gs : List Grant) (c k : ℕ) → n.base ≤ k
    → ((g : Grant) → Contains gs g → moved_in g.wants c ≤ k) → used_by_all n gs c ≤ k
used_least n gs c k above each =
    let greatest = greatest_used (λ d. n.base) gs c in
    elim greatest.reached [
      | inl first ↦ omega (arith, first, above)
      | inr by ↦ omega (arith, by.3, each by.0 by.1)
    ]

-- and at least each of these
pub used_most : (n : Net) (gs : List Grant) (c : ℕ) (g : Grant) → Contains gs g
    → moved_in g.wants c ≤ used_by_all n gs c
used_most n gs c g has = All-contains (λ (h : Grant). moved_in h.wants c ≤ used_by_all n gs c) gs g
    (greatest_used (λ d. n.base) gs c).moves_within has

pub used_above_base : (n : Net) (gs : List Grant) (c : ℕ) → n.base ≤ used_by_all n gs c
used_above_base n gs c = (greatest_used (λ d. n.base) gs c).floor_within

pub used_goes_on : (n : Net) (gs : List Grant) (g : Grant) (c : ℕ)
    → used_by_all n gs c ≤ used_by_all n (gs ++ g ∷ []) c
used_goes_on n gs g c = omega (arith, ap (λ (u : ℕ → ℕ). u c) (used_by-push (λ d. n.base) gs g))

pub both_swap : (n : Net) (s t c : ℕ) → AtBoth n s t c → AtBoth n t s c
both_swap n s t c both = record { one = both.other; other = both.one }

pub share_swap : (n : Net) (s t : ℕ) → ShareFork n s t → ShareFork n t s
share_swap n s t share = record {
  one = share.other;
  other = share.one;
  apart = λ same. share.apart (sym same);
  conflict = (
    share.conflict.0,
    (
      share.conflict.1.1,
      share.conflict.1.0,
      turned share.conflict.1.2,
    ),
  );
}
  where
    turned : {A B : Type 0} → A ⊎ B → B ⊎ A
    turned (inl a) = inr a
    turned (inr b) = inl b

pub holds_swap : (n : Net) (gs : List Grant) (s t : ℕ) (numbers : ℕ → ℕ) → Holds n gs s t numbers
    → Holds n gs t s numbers
holds_swap n gs s t numbers holds = record {
  least = λ c g both has of. holds.least c g (both_swap n t s c both) has (turned of);
  most = λ c both. holds.most c (both_swap n t s c both);
}
  where
    turned : {A B : Type 0} → A ⊎ B → B ⊎ A
    turned (inl a) = inr a
    turned (inr b) = inl b

-- the raised rows of a station that has all its forks say the used numbers of all grants
pub rows_exact : (n : Net) (gs : List Grant) (forks : ℕ → ℕ → Option LyingFork) (used : ℕ → ℕ)
    (s : ℕ) (rows : ℕ → ℕ) → IsNet n → ((g : Grant) → Contains gs g → IsAllowed n.plan g)
    → ((t : ℕ) (f : LyingFork) → forks s t ≡ Some f → Holds n gs s t f.numbers) → Owns n gs s used
    → s < n.count → HasAll n forks s → AreRaised n forks used s rows
    → (c : ℕ) → AtStation n s c → rows c ≡ used_by_all n gs c
rows_exact n gs forks used s rows net allowed hold own station complete raised' c at =
    let below : rows c ≤ used_by_all n gs c = elim (raised'.reached c at) [
      | inl same ↦ omega (arith, same, own.most c at)
      | inr by ↦ omega (arith, by.5, (hold by.0 by.1 by.3).most c by.4)
    ] in
    let above : used_by_all n gs c ≤ rows c =
    used_least n gs c (rows c) (omega (arith, own.floor c at, raised'.own c at)) each in
    omega (arith, below, above)
  where
    each : (g : Grant) → Contains gs g → moved_in g.wants c ≤ rows c
    each g has = elim (cases_lt 0 (moved_in g.wants c)) [
      | inl some ↦ by_mover (net.each g.inter.0 (allowed g has).reserved)
          (grant_moves n.plan.model g.inter.0 g.wants c (allowed g has).parties some)
      | inr none ↦ omega (arith, none)
    ]
      where
        by_mover : (t : ℕ) × (t < n.count) × (n.inter t ≡ g.inter.0)
            → moves n.plan.model g.inter.0 c ≡ true → moved_in g.wants c ≤ rows c
        by_mover (t, known, is) mover = elim (cases_eq s t) [
          | inl same ↦ omega (
            arith,
            own.least c g at has (sym is ∙ ap n.inter (sym same)),
            raised'.own c at,
          )
          | inr apart ↦
              let moving' : moves n.plan.model (n.inter t) c ≡ true = rw is mover in
              let both : AtBoth n s t c = record { one = at; other = inl moving' } in
              let share : ShareFork n s t = record {
                one = station;
                other = known;
                apart = apart;
                conflict = (c, (at, inl moving', inr moving'));
              } in
              let fork = complete t share in
              omega (
                arith,
                (hold t fork.0 fork.1).least c g both has (inr (sym is)),
                raised'.shared t c fork.0 share fork.1 both,
              )
        ]

-- a decision by rows that say the used numbers of what is wanted is one by those
pub fresh_same : (u v : ℕ → ℕ) (ws : List Want)
    → ((c : ℕ) → Any (λ (w : Want). w.comp.0 ≡ c) ws → u c ≡ v c) → IsFresh u ws → IsFresh v ws
fresh_same u v ws same fresh k d within =
    let w = get_or ws k d in
    let here' : get_or ws k w ≡ w = get_or_default ws k w d within in
    omega (arith, fresh k d within, same w.comp.0 (k, w, within, here', refl))

used_up_same : (u v : ℕ → ℕ) (ws : List Want)
    → ((c : ℕ) → Any (λ (w : Want). w.comp.0 ≡ c) ws → u c ≡ v c) → (c : ℕ) → IsUsedUp u ws c
    → IsUsedUp v ws c
used_up_same u v ws same c at = (
  at.0,
  at.1,
  at.2,
  at.3,
  (at.4.0, omega (arith, at.4.1, same c (at.0, at.1, at.2, at.3, at.4.0))),
)

pub decision_same : (u v : ℕ → ℕ) (ws : List Want) (d : Decision)
    → ((c : ℕ) → Any (λ (w : Want). w.comp.0 ≡ c) ws → u c ≡ v c) → IsDecision u ws d
    → IsDecision v ws d
decision_same u v ws (Granted serial) same fresh = fresh_same u v ws same fresh
decision_same u v ws (Refused c n) same (lowest, told) = (
  record {
    here = used_up_same u v ws same c.0 lowest.here;
    lower = λ k below at. lowest.lower k below
        (used_up_same v u ws (λ e wanted. sym (same e wanted)) k at);
  },
  told ∙ same c.0 (lowest.here.0, lowest.here.1, lowest.here.2, lowest.here.3, lowest.here.4.0),
)
