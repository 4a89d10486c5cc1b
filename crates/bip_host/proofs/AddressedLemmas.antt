-- What is put by one of several outlets.
use Rattle.std.proofs.Common.{◌≡◌, ◌∙◌, ℕ, zero, suc, List, [], ◌∷◌, arith, refl, subst, sym, ap}
use Rattle.std.proofs.lemmas.Option.{none-some, same_Some}
use Rattle.std.specs.Prelude.{All, IfNone, IfSome, IsSomeAnd, MatchOption, None, Option, Some, map}
use Rattle.std.specs.Prelude.{slice_get, slice_index_or, slice_set}

module _ {A : Type 0} where
  -- a fact where there is nothing, of one by cases
  pub none_of : {P Q : Type 0} (R : A → Type 0) (o : Option A) → MatchOption o P R → (P → Q)
      → IfNone o Q
  none_of R None at leads = leads at
  none_of R (Some a) at leads = tt

  -- a fact where there is something, of one by cases
  pub some_of : (P : Type 0) {R S : A → Type 0} (o : Option A) → MatchOption o P R
      → ((a : A) → R a → S a) → IfSome o S
  some_of P None at leads = tt
  some_of P (Some a) at leads = leads a at

  -- what is there
  pub there : {P : A → Type 0} (o : Option A) → IsSomeAnd o P → (a : A) × (o ≡ Some a) × P a
  there None at = absurd at
  there (Some a) at = (a, refl, at)

  -- an item read at its place
  pub read_at : (xs : List A) (k : ℕ) (x d : A) → slice_get xs k ≡ Some x
      → slice_index_or xs k d ≡ x
  read_at [] k x d at = absurd (none-some x at)
  read_at (a ∷ xs) zero x d at = same_Some a x at
  read_at (a ∷ xs) (suc k) x d at = read_at xs k x d at

  -- what is the same of an item that is set is the same of all
  pub map_set : {B : Type 0} (f : A → B) (xs : List A) (k : ℕ) (x y : A)
      → slice_get xs k ≡ Some x → f y ≡ f x → map f (slice_set xs k y) ≡ map f xs
  map_set f [] k x y at same = refl
  map_set f (a ∷ xs) zero x y at same = ap (λ b. b ∷ map f xs)
      (same ∙ ap f (sym (same_Some a x at)))
  map_set f (a ∷ xs) (suc k) x y at same = ap (λ l. f a ∷ l) (map_set f xs k x y at same)

  -- what holds of each item holds of the one at a place
  pub at_all : (P : A → Type 0) (xs : List A) → All P xs → (k : ℕ) (x : A)
      → slice_get xs k ≡ Some x → P x
  at_all P [] all k x at = absurd (none-some x at)
  at_all P (a ∷ xs) all zero x at = subst P (same_Some a x at) (all 0 a (omega arith))
  at_all P (a ∷ xs) all (suc k) x at =
      at_all P xs (λ j d lt. all (suc j) d (omega (arith, lt))) k x at
