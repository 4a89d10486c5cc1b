-- The laws of the lock: what passes count and were shown.
use Rattle.std.proofs.Common.{◌≡◌, ℕ, ◌+◌, ◌≤◌, Bool, true, false, eqb, List, [], ◌∷◌, map, max, Ok}
use Rattle.std.proofs.Common.{Err, refl, inl, inr, arith}
use Rattle.std.specs.Prelude.{All, if◌then◌else◌, ◌==◌}
use Rattle.std.proofs.lemmas.Bool.{cases_Bool}
use Rattle.std.proofs.lemmas.List.Recursion.{max_bounds}
use Rattle.bip_model.specs.Wants.{moved_in}
use Rattle.bip_model.specs.declared.wants.Want.{Want}
use Rattle.bip_table.specs.Closing.{greatest}
use Rattle.bip_table.specs.Laws.{NothingFalls, RefusalIsShown, ShownIsReached}
use Rattle.bip_table.specs.Passes.{Passed, count_at, has_tally, shown_at, tally_after_grant}
use Rattle.bip_table.specs.Passes.{tally_after_refusal}
use Rattle.bip_table.specs.Reservations.{KeptRows}
use Rattle.bip_table.specs.Rows.{used_at}
use Rattle.bip_table.specs.declared.faults.TableFault.TheVariants.{UnknownRow, Memory, Ended}
use Rattle.bip_table.specs.declared.faults.TableFault.TheVariants.{NotKept}
use Rattle.bip_table.specs.declared.passes.Tally.{Tally}
use Rattle.bip_table.specs.declared.reservations.Decision.TheVariants.{Granted, Refused}

count_rises : (f : Tally → Tally) → ((t : Tally) → (f t).comp ≡ t.comp)
    → ((t : Tally) → t.count ≤ (f t).count) → (ts : List Tally) (c : ℕ)
    → count_at ts c ≤ count_at (map f ts) c
count_rises f same more [] c = omega arith
count_rises f same more (t ∷ ts) c = elim (cases_Bool (eqb t.comp.0 c)) [
  | inl here ↦ rw (same t, here) (more t)
  | inr there ↦ rw (same t, there) (count_rises f same more ts c)
]

shown_rises : (f : Tally → Tally) → ((t : Tally) → (f t).comp ≡ t.comp)
    → ((t : Tally) → t.shown ≤ (f t).shown) → (ts : List Tally) (c : ℕ)
    → shown_at ts c ≤ shown_at (map f ts) c
shown_rises f same more [] c = omega arith
shown_rises f same more (t ∷ ts) c = elim (cases_Bool (eqb t.comp.0 c)) [
  | inl here ↦ rw (same t, here) (more t)
  | inr there ↦ rw (same t, there) (shown_rises f same more ts c)
]

counts_by : (b : Bool) (n : ℕ) → n ≤ n + (if b then 0 else 1)
counts_by true n = omega arith
counts_by false n = omega arith

shows_by : (b : Bool) (m n : ℕ) → m ≤ (if b then max m n else m)
shows_by true m n = omega arith
shows_by false m n = omega arith

by_grant : (wants : List Want) (ts : List Tally) (c : ℕ)
    → (count_at ts c ≤ count_at (map (tally_after_grant wants) ts) c)
    × (shown_at ts c ≤ shown_at (map (tally_after_grant wants) ts) c)
by_grant wants ts c = (
  count_rises (tally_after_grant wants) (λ t. refl)
      (λ t. counts_by (moved_in wants t.comp.0 == 0) t.count) ts c,
  shown_rises (tally_after_grant wants) (λ t. refl) (λ t. omega arith) ts c,
)

pub nothing_falls : NothingFalls
nothing_falls wants (Ok (Granted serial)) ts c = by_grant wants ts c
nothing_falls wants (Err NotKept) ts c = by_grant wants ts c
nothing_falls wants (Ok (Refused d used)) ts c = (
  count_rises (tally_after_refusal d.0 used) (λ t. refl) (λ t. omega arith) ts c,
  shown_rises (tally_after_refusal d.0 used) (λ t. refl)
      (λ t. shows_by (t.comp.0 == d.0) t.shown used) ts c,
)
nothing_falls wants (Err (UnknownRow d)) ts c = (omega arith, omega arith)
nothing_falls wants (Err Memory) ts c = (omega arith, omega arith)
nothing_falls wants (Err Ended) ts c = (omega arith, omega arith)

told_number : (c used : ℕ) (ts : List Tally) → has_tally ts c ≡ true
    → used ≤ shown_at (map (tally_after_refusal c used) ts) c
told_number c used [] has = cc
told_number c used (t ∷ ts) has = elim (cases_Bool (eqb t.comp.0 c)) [
  | inl here ↦ rw here (omega arith)
  | inr there ↦ rw there (told_number c used ts (rw there at has))
]

pub refusal_is_shown : RefusalIsShown
refusal_is_shown wants c used ts has = told_number c.0 used ts has

-- each number is at most the greatest
all_shown : (passes : List Passed) (t : KeptRows) (c : ℕ)
    → greatest (map (λ (p : Passed). shown_at p.tallies c) passes) ≡ used_at t.rows c
    → All (λ (p : Passed). shown_at p.tallies c ≤ used_at t.rows c) passes
all_shown passes t c same k d within =
    let f : Passed → ℕ = λ p. shown_at p.tallies c in
    let most = max_bounds (λ ps. greatest (map f ps)) f refl (λ _ _. refl) passes k d within in
    omega (arith, most, same)

pub shown_is_reached : ShownIsReached
shown_is_reached o passes t c closed row = all_shown passes t c (closed.told c row).shown
