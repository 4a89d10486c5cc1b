-- Rows, of which one gets another number.
use Rattle.std.proofs.Common.{◌≡◌, ℕ, zero, suc, ◌<◌, List, [], ◌∷◌, length, take, refl, sym, ap}
use Rattle.std.proofs.Common.{subst, arith}
use Rattle.std.specs.Prelude.{slice_set, slice_index_or}
use Rattle.bip_model.specs.declared.numbering.CompId.{CompId}
use Rattle.std.specs.List.Sorted.{IsStrictlyIncreasing}
use Rattle.bip_words.specs.Rows.{IsRows, row_comps, with_number}

pub comps_numbered : (xs : List (CompId × ℕ)) (r n : ℕ)
    → row_comps (with_number xs r n) ≡ row_comps xs
comps_numbered [] r n = refl
comps_numbered (x ∷ xs) zero n = refl
comps_numbered (x ∷ xs) (suc r) n = ap (λ (l : List ℕ). x.0.0 ∷ l) (comps_numbered xs r n)

length_numbered : (xs : List (CompId × ℕ)) (r n : ℕ) → length (with_number xs r n) ≡ length xs
length_numbered [] r n = refl
length_numbered (x ∷ xs) zero n = refl
length_numbered (x ∷ xs) (suc r) n = ap suc (length_numbered xs r n)

pub take_numbered : (k : ℕ) (xs : List (CompId × ℕ)) (r n : ℕ) (d : CompId × ℕ)
    → r < length (take k xs) → take k (slice_set xs r ((slice_index_or xs r d).0, n)) ≡ with_number
    (take k xs) r n
take_numbered zero xs r n d within = absurd (omega arith)
take_numbered (suc k) [] r n d within = absurd (omega arith)
take_numbered (suc k) (x ∷ xs) zero n d within = refl
take_numbered (suc k) (x ∷ xs) (suc r) n d within =
    ap (λ (l : List (CompId × ℕ)). x ∷ l) (take_numbered k xs r n d (omega arith))

pub rows_numbered : (xs : List (CompId × ℕ)) (r n : ℕ) → IsRows xs → IsRows (with_number xs r n)
rows_numbered xs r n valid = record {
  few = let l = length_numbered xs r n in let f = valid.few in omega (arith, l, f);
  rising = subst IsStrictlyIncreasing (sym (comps_numbered xs r n)) valid.rising;
}
