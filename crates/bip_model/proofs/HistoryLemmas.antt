-- Histories: one grant more, the greatest number used, and no component moved twice with one
-- number.
use Rattle.std.proofs.Common.{rules, ◌≡◌, ℕ, zero, suc, ◌<◌, ◌≤◌, true, ◌&&◌, eqb, List, [], ◌∷◌}
use Rattle.std.proofs.Common.{◌++◌, length, Some, refl, ap, get_or, eq-eqb, eqb-true, inl, inr}
use Rattle.std.proofs.Common.{arith, slice_get}
use Rattle.std.proofs.lemmas.Bool.{and_parts, cases_lt, cond_both, ne_eqb}
use Rattle.std.proofs.lemmas.List.Elements.{All-cons, All-nil}
use Rattle.bip_model.specs.declared.grants.Grant.{Grant}
use Rattle.bip_model.specs.declared.wants.Want.{Want}
use Rattle.bip_model.specs.declared.wants.Role.{Role}
use Rattle.bip_model.specs.declared.wants.Role.TheVariants.{Moved, Seen}
use Rattle.bip_model.specs.Laws.{HistoryGoesOn, MovedIsWanted, MovesBy, PartiesMove, UsedGoesOn}
use Rattle.bip_model.proofs.ListLemmas.{below_later}
use Rattle.bip_model.proofs.NumberingLemmas.{increasing_tail}
use Rattle.std.specs.List.Sorted.{IsStrictlyIncreasing}
use Rattle.bip_model.specs.Grants.{IsGreatestUsed, IsHistory, MovesOnceEach, used_by}
use Rattle.bip_model.specs.Wants.{IsFresh, components_of, is_moved, moved_in, raised}

pub used_by-append : UsedGoesOn
used_by-append floor [] hs = refl
used_by-append floor (g ∷ gs) hs = used_by-append (raised floor g.wants) gs hs

pub used_by-push : (floor : ℕ → ℕ) (gs : List Grant) (g : Grant)
    → used_by floor (gs ++ g ∷ []) ≡ raised (used_by floor gs) g.wants
used_by-push floor gs g = used_by-append floor gs (g ∷ [])

-- what is greatest above the numbers that a grant raised, is so with that grant at the front
greatest_behind : (floor : ℕ → ℕ) (g : Grant) (gs : List Grant) (c n : ℕ)
    → IsGreatestUsed (raised floor g.wants) gs c n → IsGreatestUsed floor (g ∷ gs) c n
greatest_behind floor g gs c n later = record {
  floor_within = omega (arith, later.floor_within);
  moves_within = All-cons (λ (h : Grant). moved_in h.wants c ≤ n) g gs
      (omega (arith, later.floor_within)) later.moves_within;
  reached = elim later.reached [
    | inl first ↦ elim (cases_lt (floor c) (moved_in g.wants c)) [
      | inl moves ↦ inr (g, (0, omega arith, refl), omega arith, omega (arith, first))
      | inr stays ↦ inl (omega (arith, first))
    ]
    | inr moved ↦ inr (
      moved.0,
      (suc moved.1.0, omega (arith, moved.1.1), moved.1.2),
      moved.2,
      moved.3,
    )
  ];
}

pub greatest_used : (floor : ℕ → ℕ) (gs : List Grant) (c : ℕ)
    → IsGreatestUsed floor gs c (used_by floor gs c)
greatest_used floor [] c = record {
  floor_within = omega arith;
  moves_within = All-nil (λ (h : Grant). moved_in h.wants c ≤ floor c);
  reached = inl refl;
}
greatest_used floor (g ∷ gs) c = greatest_behind floor g gs c (used_by (raised floor g.wants) gs c)
    (greatest_used (raised floor g.wants) gs c)

pub IsHistory-append : HistoryGoesOn
IsHistory-append floor [] hs = assumption
IsHistory-append floor (g ∷ gs) hs =
    let rest = IsHistory-append (raised floor g.wants) gs hs in
    search (rules, rest.0, rest.1)

-- the number with which fresh wants move a component is above its used number
pub moved_above : (used : ℕ → ℕ) (wants : List Want) (c : ℕ) → IsFresh used wants
    → 0 < moved_in wants c → used c < moved_in wants c
moved_above used [] c fresh moves = absurd (omega arith)
moved_above used (w ∷ ws) c fresh moves =
    cond_both (eqb w.comp.0 c && is_moved w.role) w.number (moved_in ws c) (λ n. 0 < n → used c < n)
    (λ both some. rw (eqb-true w.comp.0 c (and_parts (eqb w.comp.0 c) (is_moved w.role) both).0) at
    (fresh 0 w (omega arith)))
    (λ other. moved_above used ws c (λ k d within. fresh (suc k) d (omega arith))) moves

-- a grant of a history moves each component with a number above the floor
pub moved_above_floor : (floor : ℕ → ℕ) (gs : List Grant) (j c : ℕ) (h : Grant) → IsHistory floor gs
    → slice_get gs j ≡ Some h → 0 < moved_in h.wants c → floor c < moved_in h.wants c
moved_above_floor floor [] j c h history at moves = cc
moved_above_floor floor (g ∷ gs) zero c h history at moves =
    let same : g ≡ h = cc in moved_above floor h.wants c (rw (← same) history.0) moves
moved_above_floor floor (g ∷ gs) (suc j) c h history at moves =
    omega (arith, moved_above_floor (raised floor g.wants) gs j c h history.1 at moves)

pub moves_once : (floor : ℕ → ℕ) (gs : List Grant) → IsHistory floor gs → MovesOnceEach gs
moves_once floor [] history i j c g h at_i at_j moves same = cc
moves_once floor (x ∷ xs) history zero zero c g h at_i at_j moves same = refl
moves_once floor (x ∷ xs) history zero (suc j) c g h at_i at_j moves same =
    let first : x ≡ g = cc in
    absurd (omega (
      arith,
      moved_above_floor (raised floor
          x.wants) xs j c h history.1 at_j (omega arith),
      ap (λ (y : Grant). moved_in y.wants c) first,
    ))
moves_once floor (x ∷ xs) history (suc i) zero c g h at_i at_j moves same =
    let first : x ≡ h = cc in
    absurd (omega (
      arith,
      moved_above_floor (raised floor x.wants) xs i c g history.1 at_i moves,
      ap (λ (y : Grant). moved_in y.wants c) first,
    ))
moves_once floor (x ∷ xs) history (suc i) (suc j) c g h at_i at_j moves same =
    ap suc (moves_once (raised floor x.wants) xs history.1 i j c g h at_i at_j moves same)

-- a want behind the first
later : (w : Want) (ws : List Want) (c n : ℕ) → MovesBy ws c n → MovesBy (w ∷ ws) c n
later w ws c n by = (suc by.0, by.1, omega (arith, by.2), by.3, by.4)

role_is : (role : Role) → is_moved role ≡ true → role ≡ Moved
role_is Moved moved = refl
role_is Seen moved = cc

moves_by : (ws : List Want) (c n : ℕ) → 0 < n → moved_in ws c ≡ n → MovesBy ws c n
moves_by [] c n some is = absurd (omega arith)
moves_by (w ∷ ws) c n some is =
    cond_both (eqb w.comp.0 c && is_moved w.role) w.number (moved_in ws c)
    (λ m. m ≡ n → MovesBy (w ∷ ws) c n)
    (λ both number. let parts = and_parts (eqb w.comp.0 c) (is_moved w.role) both in
    (0, w, omega arith, refl, (eqb-true w.comp.0 c parts.0, role_is w.role parts.1, number)))
    (λ other at. later w ws c n (moves_by ws c n some at)) is

moved_at : (ws : List Want) (k : ℕ) (w : Want) (c n : ℕ) → IsStrictlyIncreasing (components_of ws)
    → k < length ws → get_or ws k w ≡ w
    → w.comp.0 ≡ c → w.role ≡ Moved → w.number ≡ n → moved_in ws c ≡ n
moved_at [] k w c n rising within is same moved number = absurd (omega arith)
moved_at (v ∷ ws) zero w c n rising within is same moved number =
    rw (is, eq-eqb w.comp.0 c same, moved) number
moved_at (v ∷ ws) (suc k) w c n rising within is same moved number =
    let less = below_later (λ (u : Want). u.comp.0) (v ∷ ws) rising 0 (suc k) w
    (omega arith) within in
    rw (ne_eqb v.comp.0 c (λ e. omega (arith, e, less, ap (λ (u : Want). u.comp.0) is)))
    (moved_at ws k w c n (increasing_tail v.comp.0 (components_of ws) rising)
    (omega arith) is same moved number)

pub moved_is_wanted : MovedIsWanted
moved_is_wanted ws c n wants some = (
  moves_by ws c n some,
  λ by. moved_at ws by.0 by.1 c n wants.rising by.2 by.3 by.4.0 by.4.1 by.4.2,
)

-- what is wanted to be moved is moved
pub parties_move : PartiesMove
parties_move m a wants sound parties c = (
  λ takes.
      let at = (parties.moved c).1 takes in
      let by : MovesBy wants c at.1.number = (at.0, at.1, at.2, at.3, (at.4.0, at.4.1, refl)) in
      let some : 0 < at.1.number = rw at.3 at (sound.numbered at.0 at.1 at.2) in
      let is = (moved_is_wanted wants c at.1.number sound some).1 by in
      omega (arith, is, some),
  λ moves.
      let by = (moved_is_wanted wants c (moved_in wants c) sound moves).0 refl in
      (parties.moved c).0 (by.0, by.1, by.2, by.3, (by.4.0, by.4.1)),
)
