-- What came of seeds, one after another.
use Rattle.std.proofs.Common.{◌≡◌, ◌+◌, ◌++◌, ◌∷◌, ℕ, List, [], arith, length, subst, suc, take, zero}
use Rattle.bip_walk.specs.Tallies.{EachSeed}

module _ {X : Type 0} (came : ℕ → X → Type 0) where
  -- of further seeds too
  pub each_on : (first next : ℕ) (xs ys : List X) → EachSeed came first xs
      → EachSeed came next ys → next ≡ first + length xs → EachSeed came first (xs ++ ys)
  each_on first next [] ys one other at = subst (λ n. EachSeed came n ys) (omega arith) other
  each_on first next (x ∷ xs) ys one other at =
      (one.0, each_on (first + 1) next xs ys one.1 other (omega arith))

  -- of the first of them
  pub each_front : (first k : ℕ) (xs : List X) → EachSeed came first xs
      → EachSeed came first (take k xs)
  each_front first zero xs is = tt
  each_front first (suc k) [] is = tt
  each_front first (suc k) (x ∷ xs) is = (is.0, each_front (first + 1) k xs is.1)

-- what is so of each is so in a weaker way
pub each_weaker : {X : Type 0} (came comes : ℕ → X → Type 0)
    → ((seed : ℕ) (x : X) → came seed x → comes seed x) → (first : ℕ) (xs : List X)
    → EachSeed came first xs → EachSeed comes first xs
each_weaker came comes weaker first [] is = tt
each_weaker came comes weaker first (x ∷ xs) is =
    (weaker first x is.0, each_weaker came comes weaker (first + 1) xs is.1)
