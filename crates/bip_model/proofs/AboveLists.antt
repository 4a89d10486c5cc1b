-- Lists of those above, in order of their numbers.
use Rattle.std.proofs.Common.{◌≡◌, ◌↔◌, ℕ, ◌+◌, ◌<◌, true, List, [], ◌∷◌, ◌++◌, length, get_or}
use Rattle.std.proofs.Common.{refl, ap, subst, inl, inr, arith, length-append, below_more}
use Rattle.std.specs.Prelude.{All, Contains, filter, map}
use Rattle.std.specs.List.{range_with_len}
use Rattle.std.specs.List.Sorted.{IsStrictlyIncreasing}
use Rattle.std.proofs.lemmas.Bool.{cases_Bool}
use Rattle.std.proofs.lemmas.List.{get_or_push, get_or_append_left}
use Rattle.std.proofs.lemmas.List.Elements.{All-contains, filter_passes, Contains-get_or}
use Rattle.std.proofs.lemmas.List.FromFn.{length-range_with_len, get_or-range_with_len}
use Rattle.std.proofs.lemmas.List.FromFn.{length-map-range_with_len, get_or-map-range_with_len}
use Rattle.std.proofs.lemmas.List.Kept.{IsStrictlyIncreasing-filter}
use Rattle.bip_model.specs.Sets.{has}
use Rattle.bip_model.specs.Priorities.{AreListsAbove, HasAbove, IsPairOf, IsListAbove, inter}
use Rattle.bip_model.specs.Priorities.{inters_in}
use Rattle.bip_model.specs.declared.numbering.InterId.{InterId}
use Rattle.bip_model.specs.declared.parts.Pair.{Pair}
use Rattle.std.proofs.Common.{Bool}
use Rattle.bip_model.specs.Parts.{IsSystemSoFar}
use Rattle.bip_model.specs.Steps.{AreListsLookedAt, IsListLookedAt, comps_looked_at, looks_at}
use Rattle.bip_model.specs.declared.numbering.CompId.{CompId}
use Rattle.bip_model.specs.declared.parts.System.{System}
use Rattle.bip_model.proofs.LookLemmas.{looked_at, looked_known, looks_where}
use Rattle.std.proofs.Common.{false}
use Rattle.std.proofs.lemmas.Bool.{false≢true}
use Rattle.bip_model.proofs.ClimbLemmas.{Decided, HasAbove-decided}
use Rattle.bip_model.proofs.AboveLemmas.{HasAbove-high}
use Rattle.bip_model.proofs.ListLemmas.{Contains-filter}

range-rises : (n : ℕ) → IsStrictlyIncreasing (range_with_len 0 n)
range-rises n k within =
    let all : length (range_with_len 0 n) ≡ n = length-range_with_len 0 n in
    let here = get_or-range_with_len 0 n k 0 (omega arith) in
    let next = get_or-range_with_len 0 n (k + 1) 0 (omega arith) in
    omega arith

-- things made of the numbers that pass a test, below a bound
module _ {X : Type 0} (number : X → ℕ) (make : ℕ → X) (same : (n : ℕ) → number (make n) ≡ n)
    (test : ℕ → Bool) where
  abbrev pub kept : ℕ → List X
  kept count = filter (λ x. test (number x)) (map make (range_with_len 0 count))

  numbers_kept : (ns : List ℕ) → map number (filter (λ x. test (number x)) (map make ns))
      ≡ filter test ns
  numbers_kept [] = refl
  numbers_kept (n ∷ ns) =
      let e = same n in
      elim (cases_Bool (test n)) [
        | inl in' ↦ rw (e, in') (rw e (ap (λ (l : List ℕ). n ∷ l) (numbers_kept ns)))
        | inr out ↦ rw (e, out) (numbers_kept ns)
      ]

  pub kept-rises : (count : ℕ) → IsStrictlyIncreasing (map number (kept count))
  kept-rises count = rw (numbers_kept (range_with_len 0 count))
      (IsStrictlyIncreasing-filter test (range_with_len 0 count) (range-rises count))

  -- what is below the bound and passes is kept
  pub is_kept : (count b : ℕ) → b < count → test b ≡ true → Contains (kept count) (make b)
  is_kept count b within passes =
      let all : List X = map make (range_with_len 0 count) in
      let at : get_or all b (make 0) ≡ make b =
      get_or-map-range_with_len make 0 count b b (make 0) within (omega arith) in
      let below : b < length all = rw (length-map-range_with_len make 0 count) within in
      let there : Contains all (make b) = subst (λ (x : X). Contains all x) at
      (Contains-get_or all b (make 0) below) in
      Contains-filter (λ (x : X). test (number x)) all (make b) there (rw (same b) passes)

  -- what is kept passes
  pub kept_passes : (count b : ℕ) → Contains (kept count) (make b) → test b ≡ true
  kept_passes count b at =
      rw (same b) at (All-contains (λ (x : X). test (number x) ≡ true) (kept count) (make b)
      (filter_passes (λ (x : X). test (number x)) (map make (range_with_len 0 count))) at)

-- the inters_in of the set of all above an interaction
list_by : (pairs : List Pair) (count a : ℕ) (test : ℕ → Bool) → All (IsPairOf count) pairs
    → ((b : ℕ) → (test b ≡ true) ↔ HasAbove pairs a b)
    → IsListAbove pairs a (kept (λ (b : InterId). b.0) inter (λ n. refl) test count)
list_by pairs count a test known above = record {
  rising = kept-rises (λ (b : InterId). b.0) inter (λ n. refl) test count;
  exact = λ b. (
    λ at. (above b).0 (kept_passes (λ (x : InterId). x.0) inter (λ n. refl) test count b at),
    λ up. is_kept (λ (x : InterId). x.0) inter (λ n. refl) test count b
        (HasAbove-high count pairs a b known up) ((above b).1 up),
  );
}

pub list-above : (pairs : List Pair) (count a set : ℕ) → All (IsPairOf count) pairs
    → ((b : ℕ) → (has set b ≡ true) ↔ HasAbove pairs a b)
    → IsListAbove pairs a (inters_in count set)
list-above pairs count a set known above = list_by pairs count a (has set) known above

-- the components that are kept are those that an interaction looks at
pub list_looked_at : (m : System) (a : ℕ) (above : List InterId) → IsSystemSoFar m
    → IsListAbove m.priorities a above → IsListLookedAt m a
    (comps_looked_at m a above (length m.components))
list_looked_at m a above valid list = record {
  rising = kept-rises (λ (c : CompId). c.0) (λ n. record { 0 = n }) (λ n. refl) (looks_at m a above)
      (length m.components);
  exact = λ c. (
    λ at. looked_at m a c above list (kept_passes (λ (x : CompId). x.0) (λ n. record { 0 = n })
        (λ n. refl) (looks_at m a above) (length m.components) c at),
    λ is. is_kept (λ (x : CompId). x.0) (λ n. record { 0 = n }) (λ n. refl) (looks_at m a above)
        (length m.components) c (looked_known m a c valid is) (looks_where m a c above list is),
  );
}

-- as a test, what holds or doesn't
abbrev tested : {P : Type 0} → Decided P → Bool
tested (inl holds) = true
tested (inr fails) = false

tested_is : {P : Type 0} (d : Decided P) → (tested d ≡ true) ↔ P
tested_is (inl holds) = (λ _. holds, λ _. refl)
tested_is (inr fails) = (λ e. absurd (false≢true e), λ holds. absurd (fails holds))

-- what stands above an interaction can be listed
pub above_listed : (m : System) (a : ℕ) → IsSystemSoFar m → (above : List InterId)
    × IsListAbove m.priorities a above
above_listed m a valid = (
  _,
  list_by m.priorities (length m.interactions) a (λ b. tested
      (HasAbove-decided m.priorities a b)) valid.priorities
      (λ b. tested_is (HasAbove-decided m.priorities a b)),
)

-- what an interaction looks at can be listed
pub looks_listed : (m : System) (a : ℕ) → IsSystemSoFar m → (looks : List CompId)
    × IsListLookedAt m a looks
looks_listed m a valid =
    let above = list_by m.priorities (length m.interactions) a
    (λ b. tested (HasAbove-decided m.priorities a b)) valid.priorities
    (λ b. tested_is (HasAbove-decided m.priorities a b)) in
    (_, list_looked_at m a _ valid above)

-- one more list
pub AreListsLookedAt-more : (m : System) (n : ℕ) (lists : List (List CompId)) (list : List CompId)
    → AreListsLookedAt m n lists → IsListLookedAt m n list
    → AreListsLookedAt m (n + 1) (lists ++ list ∷ [])
AreListsLookedAt-more m n lists list before more = record {
  each = let same = before.each in rw (length-append lists (list ∷ [])) (omega arith);
  list = below_more _ _
      (λ a below. let within : a < length lists = let same = before.each in omega arith in
      rw (get_or_append_left lists (list ∷ []) [] a within) (before.list a below))
      (rw (get_or_push lists list [] n before.each) more);
}

-- one more row
pub AreListsAbove-more : (pairs : List Pair) (n : ℕ) (rows : List (List InterId))
    (row : List InterId) → AreListsAbove pairs n rows → IsListAbove pairs n row
    → AreListsAbove pairs (n + 1) (rows ++ row ∷ [])
AreListsAbove-more pairs n rows row before more = record {
  each = let same = before.each in rw (length-append rows (row ∷ [])) (omega arith);
  list = below_more _ _
      (λ a below. let within : a < length rows = let same = before.each in omega arith in
      rw (get_or_append_left rows (row ∷ []) [] a within) (before.list a below))
      (rw (get_or_push rows row [] n before.each) more);
}
