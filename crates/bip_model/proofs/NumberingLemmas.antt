-- Things in order of number: they are the same things, they rise where their numbers differ, and
-- the same things that rise are those.
use Rattle.std.proofs.Common.{nat_cmp, ◌≡◌, ℕ, zero, suc, ◌+◌, ◌<◌, ◌≤◌, ◌⊎◌, ◌≢◌, false, eqb, ltb}
use Rattle.std.proofs.Common.{List, [], ◌∷◌, ◌++◌, length, map, refl, sym, ap, ◌∙◌, inl, inr, arith}
use Rattle.std.proofs.Common.{All, Contains}
use Rattle.std.specs.List.{AllByRecursion, IsDistinct, list_any}
use Rattle.std.specs.List.Sorted.{IsNonDecreasing, IsNonDecreasingBy, IsPermutation}
use Rattle.std.specs.List.Sorted.{IsStrictlyIncreasing}
use Rattle.std.proofs.lemmas.Bool.{cond_both, eqb-false, eqb-true, ltb-false, ltb-true, ne_eqb}
use Rattle.std.proofs.lemmas.Cmp.{nat_eq_equiv}
use Rattle.std.proofs.lemmas.List.{get_or-map, length-map, map_push}
use Rattle.std.proofs.lemmas.List.Elements.{All-map, Contains-append_right, recursion_from_All}
use Rattle.std.proofs.lemmas.List.Folds.{Any-from_list_any}
use Rattle.std.proofs.lemmas.Map.Made.{Contains-tail}
use Rattle.std.proofs.lemmas.Map.Steps.{length-le_from_distinct_below}
use Rattle.std.proofs.lemmas.List.Kept.{AllPairs-from_increasing}
use Rattle.std.proofs.lemmas.List.Sorted.{Contains-permutation, IsPermutation-cons}
use Rattle.std.proofs.lemmas.List.Sorted.{IsPermutation-map, IsPermutation-middle}
use Rattle.std.proofs.lemmas.List.Sorted.{IsPermutation-refl, IsPermutation-sym}
use Rattle.std.proofs.lemmas.List.Sorted.{IsPermutation-trans}
use Rattle.std.proofs.lemmas.Map.Keys.{IsDistinct-IsPermutation, IsDistinct-from_apart}
use Rattle.std.proofs.lemmas.Map.Keys.{IsDistinct-push, IsStrictlyIncreasing-from_distinct}
use Rattle.std.proofs.lemmas.Map.Keys.{IsStrictlyIncreasing-from_sorted}
use Rattle.std.proofs.lemmas.Map.Keys.{sorted_from_strictly_increasing, sorted_tail}
use Rattle.bip_model.specs.Numbering.{by_number, put_by_number}

-- each number is below all later ones
abbrev pub Rises : List ℕ → Type 0
Rises [] = Unit {0}
Rises (x ∷ xs) = AllByRecursion (λ y. x < y) xs × Rises xs

pub increasing_from_rises : (xs : List ℕ) → Rises xs → IsStrictlyIncreasing xs
increasing_from_rises [] rises k within = absurd (omega arith)
increasing_from_rises (x ∷ []) rises k within = absurd (omega arith)
increasing_from_rises (x ∷ y ∷ ys) rises zero within = rises.0.0
increasing_from_rises (x ∷ y ∷ ys) rises (suc k) within =
    let next : suc k + 1 ≡ suc (k + 1) = omega arith in
    rw next (increasing_from_rises (y ∷ ys) rises.1 k (omega arith))

pub increasing_tail : (x : ℕ) (xs : List ℕ) → IsStrictlyIncreasing (x ∷ xs)
    → IsStrictlyIncreasing xs
increasing_tail x xs increasing = IsStrictlyIncreasing-from_sorted xs
    (sorted_tail nat_cmp x xs (sorted_from_strictly_increasing (x ∷ xs) increasing))

pub rises_from_increasing : (xs : List ℕ) → IsStrictlyIncreasing xs → Rises xs
rises_from_increasing [] increasing = tt
rises_from_increasing (x ∷ xs) increasing = (
  recursion_from_All (λ y. x < y) xs (λ k d below. AllPairs-from_increasing (x ∷ xs) increasing 0
      (suc k) d (omega arith) (omega arith)),
  rises_from_increasing xs (increasing_tail x xs increasing),
)

pub apart_from_rises : (xs : List ℕ) → Rises xs → IsDistinct eqb xs
apart_from_rises xs rises = IsDistinct-from_apart eqb xs (λ i j d before within.
    ne_eqb _ _ (λ e. omega (
      arith,
      e,
      AllPairs-from_increasing xs (increasing_from_rises xs
          rises) i j d before within,
    )))

-- things with numbers
module _ {X : Type 0} (number : X → ℕ) where
  -- whose numbers differ
  abbrev pub AreNumbered : List X → Type 0
  AreNumbered xs = IsDistinct eqb (map number xs)

  pub numbered_moved : (xs ys : List X) → IsPermutation xs ys → AreNumbered xs → AreNumbered ys
  numbered_moved xs ys moved = IsDistinct-IsPermutation eqb nat_eq_equiv.symm (map number xs)
      (map number ys) (IsPermutation-map number xs ys moved)

  -- whether one of them has a number
  any_number : (n : ℕ) (xs : List X) → list_any (eqb n) (map number xs) ≡ list_any
      (λ r. eqb (number r) n) xs
  any_number n [] = refl
  any_number n (x ∷ xs) = rw (nat_eq_equiv.symm n (number x), any_number n xs) refl

  -- one more, with a number that none has
  pub numbered_push : (x : X) (xs : List X) → list_any (λ r. eqb (number r) (number x)) xs ≡ false
      → AreNumbered xs → AreNumbered (xs ++ x ∷ [])
  numbered_push x xs new apart = rw map_push (IsDistinct-push nat_eq_equiv (map number xs)
      (number x) apart (any_number (number x) xs ∙ new))

  -- one of them has a number that none before it has
  pub numbered_new : (before : List X) (x : X) (rest : List X) → AreNumbered (before ++ x ∷ rest)
      → list_any (λ r. eqb (number r) (number x)) before ≡ false
  unfolding IsDistinct
  numbered_new [] x rest apart = refl
  numbered_new (y ∷ ys) x rest apart = rw (other (number y) ys apart.0)
      (numbered_new ys x rest apart.1)
    where
      other : (n : ℕ) (zs : List X) → AllByRecursion (λ k. eqb n k ≡ false)
          (map number (zs ++ x ∷ rest)) → eqb n (number x) ≡ false
      other n [] all = all.0
      other n (z ∷ zs) all = other n zs all.1

  put-IsPermutation : (x : X) (xs : List X) → IsPermutation (x ∷ xs) (put_by_number number x xs)
  put-IsPermutation x [] = IsPermutation-refl (x ∷ [])
  put-IsPermutation x (y ∷ ys) =
      cond_both (ltb (number x) (number y)) _ _ (IsPermutation (x ∷ y ∷ ys))
      (λ low. IsPermutation-refl (x ∷ y ∷ ys))
      (λ high. IsPermutation-trans (x ∷ y ∷ ys) (y ∷ x ∷ ys) (y ∷ put_by_number number x ys)
      (IsPermutation-middle (x ∷ []) y ys)
      (IsPermutation-cons y (x ∷ ys) (put_by_number number x ys) (put-IsPermutation x ys)))

  -- in order, they are the same things
  pub by_number-IsPermutation : (xs : List X) → IsPermutation xs (by_number number xs)
  by_number-IsPermutation [] = IsPermutation-refl []
  by_number-IsPermutation (x ∷ xs) =
      IsPermutation-trans (x ∷ xs) (x ∷ by_number number xs)
      (put_by_number number x (by_number number xs))
      (IsPermutation-cons x xs (by_number number xs) (by_number-IsPermutation xs))
      (put-IsPermutation x (by_number number xs))

  above_put : (n : ℕ) (x : X) (xs : List X) → n < number x
      → AllByRecursion (λ k. n < k) (map number xs)
      → AllByRecursion (λ k. n < k) (map number (put_by_number number x xs))
  above_put n x [] one all = (one, tt)
  above_put n x (y ∷ ys) one all = cond_both (ltb (number x) (number y)) _ _
      (λ zs. AllByRecursion (λ k. n < k) (map number zs)) (λ low. (one, all))
      (λ high. (all.0, above_put n x ys one all.1))

  above_all : (low high : ℕ) (zs : List ℕ) → low < high → AllByRecursion (λ z. high < z) zs
      → AllByRecursion (λ z. low < z) zs
  above_all low high [] less all = tt
  above_all low high (z ∷ zs) less all = (omega arith, above_all low high zs less all.1)

  rises_put : (x : X) (xs : List X) → AllByRecursion (λ n. eqb (number x) n ≡ false) (map number xs)
      → Rises (map number xs) → Rises (map number (put_by_number number x xs))
  rises_put x [] new rises = (tt, tt)
  rises_put x (y ∷ ys) new rises =
      cond_both (ltb (number x) (number y)) _ _ (λ zs. Rises (map number zs))
      (λ low. let less = ltb-true (number x) (number y) low in
      ((less, above_all (number x) (number y) (map number ys) less rises.0), rises))
      (λ high.
      let differ : number x ≢ number y = eqb-false (number x) (number y) new.0 in (
        above_put (number y) x ys (omega (arith, ltb-false (number x) (number y) high)) rises.0,
        rises_put x ys new.1 rises.1,
      ))

  -- in order, they rise where their numbers differ
  pub by_number-rises : (xs : List X) → AreNumbered xs → Rises (map number (by_number number xs))
  unfolding IsDistinct
  by_number-rises [] apart = tt
  by_number-rises (x ∷ xs) apart =
      let all : AreNumbered (x ∷ by_number number xs) =
      numbered_moved (x ∷ xs) (x ∷ by_number number xs)
      (IsPermutation-cons x xs (by_number number xs) (by_number-IsPermutation xs)) apart in
      rises_put x (by_number number xs) all.0 (by_number-rises xs apart.1)

  first_or_later : (x : X) (xs : List X) (z : X) → Contains (x ∷ xs) z → (x ≡ z) ⊎ Contains xs z
  first_or_later x xs z (zero, within, is) = inl is
  first_or_later x xs z (suc k, within, is) = inr (k, omega arith, is)

  above_member : (n : ℕ) (xs : List X) (z : X) → AllByRecursion (λ k. n < k) (map number xs)
      → Contains xs z → n < number z
  above_member n [] z all (k, within, is) = absurd (omega arith)
  above_member n (x ∷ xs) z all member = elim (first_or_later x xs z member)
      [ inl same ↦ rw (← same) all.0 | inr in' ↦ above_member n xs z all.1 in' ]

  -- lists that rise and have the same members are one
  pub same_list : (xs ys : List X) → Rises (map number xs) → Rises (map number ys)
      → ((z : X) → Contains xs z → Contains ys z) → ((z : X) → Contains ys z → Contains xs z)
      → xs ≡ ys
  same_list [] [] rise rise' there back = refl
  same_list [] (y ∷ ys) rise rise' there back =
      absurd (omega (arith, (back y (0, omega arith, refl)).1))
  same_list (x ∷ xs) [] rise rise' there back =
      absurd (omega (arith, (there x (0, omega arith, refl)).1))
  same_list (x ∷ xs) (y ∷ ys) rise rise' there back =
      let first : x ≡ y = elim (first_or_later y ys x (there x (0, omega arith, refl))) [
        | inl same ↦ sym same
        | inr in' ↦ elim (first_or_later x xs y (back y (0, omega arith, refl))) [
          | inl same ↦ same
          | inr in'' ↦ absurd (omega (
            arith,
            above_member (number x) xs y rise.0 in'',
            above_member (number y) ys x rise'.0 in',
          ))
        ]
      ] in
      let rest : xs ≡ ys = same_list xs ys rise.1 rise'.1
      (λ z in'. Contains-tail y ys z (λ e. omega (
        arith,
        above_member (number x) xs z rise.0 in',
        ap number (first ∙ e),
      )) (there z (Contains-append_right (x ∷ []) xs z in')))
      (λ z in'. Contains-tail x xs z (λ e. omega (
        arith,
        above_member (number y) ys z rise'.0 in',
        ap number (sym first ∙ e),
      )) (back z (Contains-append_right (y ∷ []) ys z in'))) in
      rw (first, rest) refl

  -- the same things that rise are those in order
  pub by_number-is : (xs ys : List X) → IsPermutation xs ys → Rises (map number ys)
      → by_number number xs ≡ ys
  by_number-is xs ys moved rises =
      let apart : AreNumbered xs = numbered_moved ys xs (IsPermutation-sym xs ys moved)
      (apart_from_rises (map number ys) rises) in
      let ordered = by_number-IsPermutation xs in
      let across = IsPermutation-trans (by_number number xs) xs ys
      (IsPermutation-sym xs (by_number number xs) ordered) moved in
      same_list (by_number number xs) ys (by_number-rises xs apart) rises
      (λ z in'. Contains-permutation (by_number number xs) ys z across in')
      (λ z in'. Contains-permutation ys (by_number number xs) z
      (IsPermutation-sym (by_number number xs) ys across) in')

  -- what a sort by number leaves of things whose numbers differ
  pub sorted-is : (xs ys : List X) → IsPermutation xs ys → IsNonDecreasingBy number ys
      → AreNumbered xs → by_number number xs ≡ ys
  sorted-is xs ys moved up apart =
      by_number-is xs ys moved (rises_from_increasing (map number ys)
      (IsStrictlyIncreasing-from_distinct (map number ys) (mapped ys up)
      (numbered_moved xs ys moved apart)))
    where
      mapped : (zs : List X) → IsNonDecreasingBy number zs → IsNonDecreasing (map number zs)
      mapped [] up' i j d before within = absurd (omega arith)
      mapped (z ∷ zs) up' i j d before within =
          let inside : j < length (z ∷ zs) = rw (length-map (z ∷ zs) number) at within in
          omega (
            arith,
            get_or-map number (z ∷ zs) i z d (omega arith),
            get_or-map number (z ∷ zs) j z d inside,
            up' i j z before inside,
          )

  -- things whose numbers differ and are below a bound are no more than that
  pub few_below : (high : ℕ) (xs : List X) → AreNumbered xs → All (λ x. number x < high) xs
      → length xs ≤ high
  few_below high xs apart below =
      let low = All-map (λ n. n < high) number xs below in
      rw length-map at (length-le_from_distinct_below (map number xs) high apart (λ q known.
      let at = Any-from_list_any (eqb q) (map number xs) known in
      omega (arith, low at.0 at.1 at.2, at.3, eqb-true q at.1 at.4)))
