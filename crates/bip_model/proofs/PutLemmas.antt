-- A list with another element at a place, as a function of places.
use Rattle.std.proofs.Common.{◌≡◌, ℕ, ◌<◌, List, length, get_or, set, inl, inr, refl}
use Rattle.std.proofs.Math.Path.{fun_ext}
use Rattle.std.proofs.lemmas.Bool.Decides.{eqb_tells}
use Rattle.std.proofs.lemmas.List.{get_or-set_other, get_or-set_same}
use Rattle.bip_model.specs.Numbering.{put}

-- what is read of it is what was read, with the other element put
pub read-set : {X : Type 0} (xs : List X) (n : ℕ) (x d : X) → n < length xs
    → (λ k. get_or (set xs n x) k d) ≡ put (λ k. get_or xs k d) n x
read-set xs n x d within = fun_ext (λ k. elim (eqb_tells k n) [
  | inl same ↦ rw (same.0, same.1) (get_or-set_same xs n x d within)
  | inr other ↦ rw (other.0, get_or-set_other xs n k x d other.1) refl
])
