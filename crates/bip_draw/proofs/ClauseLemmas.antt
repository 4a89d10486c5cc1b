-- Lists in labels, written one after another.
use Rattle.std.proofs.Common.{◌≡◌, ◌<◌, ℕ, ◌+◌, false, cond, eqb, List, [], ◌∷◌, ◌++◌, length}
use Rattle.std.proofs.Common.{get_or, take, refl, ap, ◌∙◌, sym, arith, append_assoc, append-nil}
use Rattle.std.proofs.Common.{length-take-le}
use Rattle.std.specs.List.{flat_map}
use Rattle.std.proofs.lemmas.Bool.Decides.{nat_tests}
use Rattle.std.proofs.lemmas.Grind.{flat_map-append}
use Rattle.std.proofs.lemmas.List.{take_more}
use Rattle.bip_draw.specs.Clauses.{listed}

flat_map-push : {X A : Type 0} (f : X → List A) (xs : List X) (x : X)
    → flat_map f (xs ++ x ∷ []) ≡ flat_map f xs ++ f x
flat_map-push f xs x = flat_map-append f xs (x ∷ [])
    ∙ ap (λ (l : List _). flat_map f xs ++ l) (append-nil (f x))

module _ {X : Type 0} (first mark : List ℕ) (f : X → List ℕ) where
  -- one more part
  pub listed-push : (xs : List X) (x : X) → listed first mark f (xs ++ x ∷ [])
      ≡ listed first mark f xs ++ (cond (eqb (length xs) 0) first mark ++ f x)
  listed-push [] x = append-nil (first ++ f x)
  listed-push (y ∷ ys) x =
      let later : eqb (length (y ∷ ys)) 0 ≡ false = grind (arith, nat_tests) in
      let more = flat_map-push (λ z. mark ++ f z) ys x in
      rw later (ap (λ (l : List ℕ). (first ++ f y) ++ l) more
      ∙ sym (append_assoc (first ++ f y) (flat_map (λ z. mark ++ f z) ys) (mark ++ f x)))

  -- and it is written behind the others
  pub listed_more : (front : List ℕ) (xs : List X) (i : ℕ) (d : X) → i < length xs
      → front ++ listed first mark f (take (i + 1) xs)
      ≡ ((front ++ listed first mark f (take i xs)) ++ cond (eqb i 0) first mark) ++ f
      (get_or xs i d)
  listed_more front xs i d within =
      let count : length (take i xs) ≡ i = length-take-le i xs (omega arith) in
      let before = listed first mark f (take i xs) in
      let word = cond (eqb i 0) first mark in
      let more : listed first mark f (take (i + 1) xs) ≡ before ++ (word ++ f (get_or xs i d)) =
      rw (take_more xs i d within) (rw count at (listed-push (take i xs) (get_or xs i d))) in
      rw (
        more,
        append_assoc (front ++ before) word (f (get_or xs i d)),
        append_assoc front before (word ++ f (get_or xs i d)),
      ) refl
