-- Used numbers of wants that are granted one after another.
use Rattle.std.proofs.Common.{◌≡◌, ◌≢◌, ℕ, ◌+◌, ◌<◌, Bool, true, false, ◌&&◌, eqb, cond, max, List}
use Rattle.std.proofs.Common.{[], ◌∷◌, ◌++◌, length, take, get_or, refl, arith}
use Rattle.std.specs.Prelude.{All}
use Rattle.std.specs.List.Sorted.{IsStrictlyIncreasing}
use Rattle.std.proofs.lemmas.List.{get_or-take, length-take-le, take_more}
use Rattle.std.proofs.lemmas.List.Elements.{All-head, All-tail, All-from_get_or}
use Rattle.bip_model.specs.Wants.{components_of, is_moved, moved_in}
use Rattle.bip_model.specs.declared.wants.Want.{Want}
use Rattle.bip_model.proofs.ListLemmas.{below_later}

-- whether a want moves a component
abbrev pub moves_it : Want → ℕ → Bool
moves_it w c = eqb w.comp.0 c && is_moved w.role

-- a want of another component
abbrev IsOther : ℕ → Want → Type 0
IsOther c w = w.comp.0 ≢ c

-- what wants of other components move a component with
moved_in-absent : (ws : List Want) (c : ℕ) → All (IsOther c) ws → moved_in ws c ≡ 0
moved_in-absent [] c others = refl
moved_in-absent (w ∷ ws) c others = grind (
  arith,
  All-head (IsOther c) w ws others,
  moved_in-absent ws c (All-tail (IsOther c) w ws others),
)

-- one more want, the first of its component
moved_in-push_first : (ws : List Want) (w : Want) (c : ℕ) → All (IsOther c) ws
    → moved_in (ws ++ w ∷ []) c ≡ cond (moves_it w c) w.number 0
moved_in-push_first [] w c others = refl
moved_in-push_first (v ∷ ws) w c others = grind (
  arith,
  All-head (IsOther c) v ws others,
  moved_in-push_first ws w c (All-tail (IsOther c) v ws others),
)

-- one more want that doesn't move the component
moved_in-push_other : (ws : List Want) (w : Want) (c : ℕ) → moves_it w c ≡ false
    → moved_in (ws ++ w ∷ []) c ≡ moved_in ws c
moved_in-push_other [] w c other = grind arith
moved_in-push_other (v ∷ ws) w c other = grind (arith, moved_in-push_other ws w c)

-- the wants before one are of other components
others_before : (ws : List Want) (i : ℕ) (d : Want) → IsStrictlyIncreasing (components_of ws)
    → i < length ws → All (IsOther (get_or ws i d).comp.0) (take i ws)
others_before ws i d rising within =
    let shorter : length (take i ws) ≡ i = length-take-le i ws (omega arith) in
    All-from_get_or (IsOther (get_or ws i d).comp.0) (take i ws) d (λ k below.
    let less = below_later (λ (v : Want). v.comp.0) ws rising k i d (omega arith) within in
    rw (get_or-take i ws k d (omega arith)) (λ same. omega arith))

-- used numbers after one more want
pub raised_more : (u n : ℕ) (ws : List Want) (i : ℕ) (d : Want) (c : ℕ)
    → IsStrictlyIncreasing (components_of ws) → i < length ws → n ≡ max u (moved_in (take i ws) c)
    → cond (moves_it (get_or ws i d) c) (max n (get_or ws i d).number) n ≡ max u
    (moved_in (take (i + 1) ws) c)
raised_more u n ws i d c rising within before =
    rw (take_more ws i d within) (by_test (moves_it (get_or ws i d) c) refl)
  where
    by_test : (b : Bool) → moves_it (get_or ws i d) c ≡ b
        → cond b (max n (get_or ws i d).number) n ≡ max u
        (moved_in (take i ws ++ get_or ws i d ∷ []) c)
    by_test true e =
        let same : (get_or ws i d).comp.0 ≡ c = grind arith in
        let others = rw same at (others_before ws i d rising within) in
        grind (
          arith,
          moved_in-absent (take i ws) c others,
          moved_in-push_first (take i ws) (get_or ws i d) c others,
        )
    by_test false e = grind (arith, moved_in-push_other (take i ws) (get_or ws i d) c)
