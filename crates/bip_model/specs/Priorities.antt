-- Priorities: what stands above what, and the tables of it.
use Rattle.std.specs.Prelude.{◌≡◌, ◌↔◌, ℕ, ◌<◌, ◌==◌, ◌||◌, ◌&&◌, Bool, List, [], length, map}
use Rattle.std.specs.Prelude.{All, filter, Contains, slice_index_or, ◌≤◌}
use Rattle.std.specs.Prelude.{◌∷◌, nat_lt, IsTrue, ⊤, if◌then◌else◌}
use Rattle.std.specs.List.{list_all, range_with_len}
use Rattle.std.specs.List.Sorted.{IsStrictlyIncreasing}
use Rattle.bip_model.specs.Sets.{has}
use Rattle.bip_model.specs.declared.numbering.InterId.{InterId}
use Rattle.bip_model.specs.declared.parts.Pair.{Pair}
use Rattle.bip_model.specs.declared.priorities.Above.{Above}

-- the interaction of a number
abbrev pub inter : ℕ → InterId
inter a = record { 0 = a }

-- whether two pairs are one
abbrev pub is_same_pair : Pair → Pair → Bool
is_same_pair p q = (p.low.0 == q.low.0) && (p.high.0 == q.high.0)

-- whether a pair stands before another: by low, then high number
abbrev pub is_before : Pair → Pair → Bool
is_before p q = nat_lt p.low.0 q.low.0 || ((p.low.0 == q.low.0) && nat_lt p.high.0 q.high.0)

-- pairs by low, then high number
abbrev pub AreInOrder : List Pair → Type 0
AreInOrder [] = ⊤
AreInOrder (p ∷ ps) = IsTrue (list_all (is_before p) ps) × AreInOrder ps

-- a pair put among others, before the first one that stands behind it
abbrev pub put_pair : Pair → List Pair → List Pair
put_pair p [] = p ∷ []
put_pair p (q ∷ qs) = if is_before p q then p ∷ q ∷ qs else q ∷ put_pair p qs

-- `priority a < b`
abbrev pub pair : ℕ → ℕ → Pair
pair a b = record { low = inter a; high = inter b }

-- the second interaction stands above the first: declared pairs lead from the one to the other
pub data HasAbove (pairs : List Pair) : ℕ → ℕ → Type 0 where
  declared : {a b : ℕ} → Contains pairs (pair a b) → HasAbove pairs a b
  through : {a b c : ℕ} → Contains pairs (pair a b) → HasAbove pairs b c → HasAbove pairs a c

-- some interaction stands above itself
abbrev pub IsCyclic : List Pair → Type 0
IsCyclic pairs = (a : ℕ) × HasAbove pairs a a

-- a pair of interactions of which there are so many
pub record IsPairOf (count : ℕ) (p : Pair) : Type 0 where
  pub low : p.low.0 < count
  pub high : p.high.0 < count

-- the list of those above an interaction, in order of their numbers
pub record IsListAbove (pairs : List Pair) (a : ℕ) (list : List InterId) : Type 0 where
  pub rising : IsStrictlyIncreasing (map (λ (b : InterId). b.0) list)
  pub exact : (b : ℕ) → Contains list (inter b) ↔ HasAbove pairs a b

-- such a list for each of so many interactions in turn
pub record AreListsAbove (pairs : List Pair) (count : ℕ) (lists : List (List InterId)) : Type 0
  where
    pub each : length lists ≡ count
    pub list : (a : ℕ) → a < count → IsListAbove pairs a (slice_index_or lists a [])

-- of so many interactions, with their declared pairs, each one's set is of those above it
pub record IsClosure (above : Above) : Type 0 where
  pub few : above.count ≤ 128
  pub known : All (IsPairOf above.count) above.pairs.now
  pub each : length above.sets ≡ 128
  pub set : (a b : ℕ) → a < above.count
      → IsTrue (has (slice_index_or above.sets a 0) b) ↔ HasAbove above.pairs.now a b

-- for each interaction the set of those that declared pairs lead to from it
pub record AreDeclaredAbove (pairs : List Pair) (sets : List ℕ) : Type 0 where
  pub each : length sets ≡ 128
  pub set : (a b : ℕ) → a < 128
      → IsTrue (has (slice_index_or sets a 0) b) ↔ Contains pairs (pair a b)

-- the interactions in a set, in order of their numbers
abbrev pub inters_in : ℕ → ℕ → List InterId
inters_in count set = filter (λ (b : InterId). has set b.0) (map inter (range_with_len 0 count))
