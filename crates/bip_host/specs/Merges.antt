-- One list is a merge of several, each in its order.
use Rattle.std.specs.Prelude.{◌≡◌, ℕ, zero, suc, List, [], ◌∷◌, map, if◌then◌else◌, ◌==◌}

module _ {M : Type 0} where
  -- what stands in a log under a number, in order
  abbrev pub logged : ℕ → List (ℕ × M) → List M
  logged p [] = []
  logged p (e ∷ es) = (if e.0 == p then e.1 ∷ logged p es else logged p es)

  -- the list with a number, which is empty past the last
  abbrev pub list_at : List (List M) → ℕ → List M
  list_at [] p = []
  list_at (l ∷ ls) zero = l
  list_at (l ∷ ls) (suc p) = list_at ls p

  -- some log of items, each under the number of a list, has the items of the whole in its order,
  -- and under each number the items of that list in theirs
  abbrev pub IsMerge : List M → List (List M) → Type 0
  IsMerge whole lists = (log : List (ℕ × M)) × (map (λ (e : ℕ × M). e.1) log ≡ whole)
      × ((p : ℕ) → logged p log ≡ list_at lists p)
