-- Names that are apart, and one more.
use Rattle.std.proofs.lemmas.Grind.{common_steps}
use Rattle.std.proofs.Common.{append-nil, arith, ◌≡◌, ℕ, false, List, [], ◌∷◌, ◌++◌, ◌∙◌}
use Rattle.std.proofs.lemmas.Cmp.{nat_list_eq_equiv}
use Rattle.bip_model.specs.Naming.{AreApart, is_known, same_text}
use Rattle.bip_model.proofs.ListLemmas.{neither}

-- one that is no other, and is not known, is not known with the other put between
unknown_between : (name other : List ℕ) (xs ys : List (List ℕ)) → same_text name other ≡ false
    → is_known name (xs ++ ys) ≡ false → is_known name ((xs ++ other ∷ []) ++ ys) ≡ false
unknown_between name other xs ys differs unknown = grind (arith, common_steps)

-- a new name put between those of a list
pub apart_between : (name : List ℕ) (xs ys : List (List ℕ)) → is_known name (xs ++ ys) ≡ false
    → AreApart (xs ++ ys) → AreApart ((xs ++ name ∷ []) ++ ys)
apart_between name [] ys unknown apart = (unknown, apart)
apart_between name (x ∷ xs) ys unknown apart =
    let parts = neither (same_text name x) (is_known name (xs ++ ys)) unknown in
    let other : same_text x name ≡ false = nat_list_eq_equiv.symm x name ∙ parts.0 in
    (unknown_between x name xs ys other apart.0, apart_between name xs ys parts.1 apart.1)

-- a new name put last
pub apart_push : (name : List ℕ) (xs : List (List ℕ)) → is_known name xs ≡ false → AreApart xs
    → AreApart (xs ++ name ∷ [])
apart_push name xs unknown apart = simp append-nil at
    (apart_between name xs [] (rw append-nil unknown) (rw append-nil apart))
