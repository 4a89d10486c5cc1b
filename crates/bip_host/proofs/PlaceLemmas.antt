-- What holds of each item of a list at its place.
use Rattle.std.proofs.Common.{◌≡◌, ℕ, zero, suc, List, [], ◌∷◌, ◌++◌, length, subst}
use Rattle.std.proofs.lemmas.Option.{none-some, same_Some}
use Rattle.std.specs.Prelude.{Some, slice_get, slice_set}

module _ {A : Type 0} where
  -- one more item, for which it holds at its place
  pub at_push : (P : ℕ → A → Type 0) (xs : List A) (x : A)
      → ((k : ℕ) (a : A) → slice_get xs k ≡ Some a → P k a) → P (length xs) x
      → (k : ℕ) (a : A) → slice_get (xs ++ x ∷ []) k ≡ Some a → P k a
  at_push P [] x each one zero a at = subst (P 0) (same_Some x a at) one
  at_push P [] x each one (suc k) a at = absurd (none-some a at)
  at_push P (y ∷ ys) x each one zero a at = each zero a at
  at_push P (y ∷ ys) x each one (suc k) a at =
      at_push (λ j. P (suc j)) ys x (λ j b is. each (suc j) b is) one k a at

  -- another item, for which it holds at that place
  pub at_set : (P : ℕ → A → Type 0) (xs : List A) (k : ℕ) (y : A)
      → ((j : ℕ) (a : A) → slice_get xs j ≡ Some a → P j a) → P k y
      → (j : ℕ) (a : A) → slice_get (slice_set xs k y) j ≡ Some a → P j a
  at_set P [] k y each one j a at = absurd (none-some a at)
  at_set P (x ∷ xs) zero y each one zero a at = subst (P 0) (same_Some y a at) one
  at_set P (x ∷ xs) zero y each one (suc j) a at = each (suc j) a at
  at_set P (x ∷ xs) (suc k) y each one zero a at = each zero a at
  at_set P (x ∷ xs) (suc k) y each one (suc j) a at =
      at_set (λ i. P (suc i)) xs k y (λ i b is. each (suc i) b is) one j a at
