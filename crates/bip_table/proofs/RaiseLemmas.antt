-- Rows copied over others, and numbers raised in rows.
use Rattle.std.proofs.Common.{◌≡◌, ℕ, zero, suc, ◌+◌, ◌<◌, add-one, length, map, get_or, set, take}
use Rattle.std.proofs.Common.{drop, List, [], ◌∷◌, ◌++◌, refl, ap, inl, inr, arith}
use Rattle.std.proofs.lemmas.Bool.Decides.{eqb_tells}
use Rattle.bip_model.specs.declared.numbering.CompId.{CompId}
use Rattle.bip_table.specs.Lending.{raising, renewed}
use Rattle.bip_table.specs.Rows.{has_row, raised_to, used_at}
use Rattle.bip_table.specs.declared.rows.Row.{Row}

copied_suc : {X : Type 0} (xs ys : List X) (k : ℕ) (d : X) → length ys ≡ length xs → k < length xs
    → set (take k xs ++ drop k ys) k (get_or xs k d) ≡ take (suc k) xs ++ drop (suc k) ys
copied_suc [] ys k d same within = absurd (omega arith)
copied_suc (x ∷ xs) [] k d same within = absurd (omega arith)
copied_suc (x ∷ xs) (y ∷ ys) zero d same within = refl
copied_suc {X = X} (x ∷ xs) (y ∷ ys) (suc k) d same within =
    ap (λ (zs : List X). x ∷ zs) (copied_suc xs ys k d (omega arith) (omega arith))

-- one more item written over that of another list
pub copied : {X : Type 0} (xs ys : List X) (k : ℕ) (d : X) → length ys ≡ length xs → k < length xs
    → set (take k xs ++ drop k ys) k (get_or xs k d) ≡ take (k + 1) xs ++ drop (k + 1) ys
copied xs ys k d same within = rw add-one (copied_suc xs ys k d same within)

-- used numbers of rows in which one is raised
pub used-raising : (rows : List Row) (comp : CompId) (n c : ℕ)
    → used_at (map (renewed (raising comp n)) rows) c ≡ raised_to comp.0 n (has_row rows)
    (used_at rows) c
used-raising [] comp n c = elim (eqb_tells comp.0 c)
    [ inl same ↦ rw same.0 refl | inr other ↦ rw other.0 refl ]
used-raising (r ∷ rs) comp n c = elim (eqb_tells r.comp.0 c) [
  | inl same ↦ elim (eqb_tells comp.0 c) [
    | inl is ↦ rw (same.0, same.1, is.0) refl
    | inr isn't ↦ rw (same.0, same.1, isn't.0) (omega arith)
  ]
  | inr other ↦ rw other.0 (used-raising rs comp n c)
]
