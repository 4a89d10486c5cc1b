-- Lists: a search, elements by their places, numbers that rise.
use Rattle.std.proofs.Common.{take-append-drop, take, drop, drop-cons, ◌++◌, ◌||◌, ◌≡◌, ℕ, ◌<◌}
use Rattle.std.proofs.Common.{Bool, true, false, List, [], ◌∷◌, eqb, Contains, length, map, get_or}
use Rattle.std.proofs.Common.{suc, None, Some, refl, sym, ◌∙◌, arith, find, ◌+◌, cond, All}
use Rattle.std.proofs.Common.{position, slice_get, option_map}
use Rattle.std.proofs.Common.{filter, inl, inr, ◌⊎◌}
use Rattle.std.proofs.lemmas.List.Elements.{All-nil, All-cons, All-contains, Contains-append_left}
use Rattle.std.proofs.lemmas.List.Elements.{Contains-append_right, Contains-append_cases}
use Rattle.std.proofs.lemmas.List.Elements.{Contains-push}
use Rattle.std.specs.List.Sorted.{IsStrictlyIncreasing}
use Rattle.std.proofs.lemmas.Bool.{cases_Bool, or_parts}
use Rattle.std.proofs.lemmas.List.Sums.{position_or_len_is}
use Rattle.std.proofs.lemmas.Bool.Decides.{nat_tests}
use Rattle.std.proofs.lemmas.List.{get_or-map, get_or_default, length-map}
use Rattle.std.proofs.lemmas.List.Folds.{find_at}
use Rattle.std.specs.List.{list_any, position_or_len}
use Rattle.std.proofs.lemmas.List.Kept.{AllPairs-from_increasing}
use Rattle.std.proofs.lemmas.Option.{slice_get_within, slice_get-get_or, get_or_from_slice_get}

-- a list in two parts and what stands between
pub parted : {X : Type 0} (xs : List X) (i : ℕ) (d : X) → i < length xs
    → take i xs ++ get_or xs i d ∷ drop (suc i) xs ≡ xs
parted xs i d within = rw (← drop-cons xs i d within) (take-append-drop i xs)

-- of numbers that rise, each is below those at later places
pub below_later : {X : Type 0} (f : X → ℕ) (xs : List X) → IsStrictlyIncreasing (map f xs)
    → (i j : ℕ) (d : X) → i < j → j < length xs → f (get_or xs i d) < f (get_or xs j d)
below_later f xs rising i j d before within =
    let e = get_or-map f xs i d 0 (omega arith) in
    let g = get_or-map f xs j d 0 within in
    omega (arith, AllPairs-from_increasing (map f xs) rising i j 0 before (simp length-map within))

-- the first element that passes is found
pub find_first : {X : Type 0} (p : X → Bool) (xs : List X) (k : ℕ) (x d : X) → k < length xs
    → x ≡ get_or xs k d → p x ≡ true → ((i : ℕ) → i < k → p (get_or xs i d) ≡ false)
    → find p xs ≡ Some x
find_first p xs k x d within is passes fail =
    let at : position_or_len p xs ≡ k = position_or_len_is p xs k d (omega arith) fail
    (λ _. rw (← is) passes) in
    rw (find_at p xs, at, slice_get-get_or xs k d within, is) refl

-- what holds of each element holds of the one at a place
pub All-slice_get : {X : Type 0} (P : X → Type 0) (xs : List X) (k : ℕ) (x : X) → All P xs
    → slice_get xs k ≡ Some x → P x
All-slice_get P xs k x all at = rw (get_or_from_slice_get xs k x x at) at
    (all k x (slice_get_within xs k x at))

-- what holds of each element holds of the one that is found
pub All-find : {X : Type 0} (P : X → Type 0) (p : X → Bool) (xs : List X) (x : X) → All P xs
    → find p xs ≡ Some x → P x
All-find P p xs x all is = All-slice_get P xs (position_or_len p xs) x all (sym (find_at p xs) ∙ is)

-- what is found stands in the list, and passes
pub found_at : {X : Type 0} (p : X → Bool) (xs : List X) (x : X) → find p xs ≡ Some x
    → Contains xs x × (p x ≡ true)
found_at p [] x is = cc
found_at p (y ∷ ys) x is = by_first (p y) refl (found_at p ys x) is
  where
    by_first : (b : Bool) → p y ≡ b → (find p ys ≡ Some x → Contains ys x × (p x ≡ true))
        → cond b (Some y) (find p ys) ≡ Some x → Contains (y ∷ ys) x × (p x ≡ true)
    by_first true here later found = let same : y ≡ x = cc in
        rw (← same) ((0, omega arith, refl), here)
    by_first false other later found =
        let more = later found in
        ((suc more.0.0, omega (arith, more.0.1), more.0.2), more.1)

-- a list of no elements is empty
pub empty_is : {X : Type 0} (xs : List X) → true ≡ eqb (length xs) 0 → xs ≡ []
empty_is [] is = refl
empty_is (x ∷ xs) is = grind (arith, nat_tests)

-- what is read of a list, whatever stands for what it lacks
pub read_is : {X : Type 0} (xs : List X) (i : ℕ) (x d : X) → i < length xs → x ≡ get_or xs i x
    → x ≡ get_or xs i d
read_is xs i x d within is = is ∙ get_or_default xs i x d within

-- what is read of a list of rows
pub read_row : {X : Type 0} (rows items : List (List X)) (i : ℕ) (x : List X) → items ≡ rows
    → i < length rows → x ≡ get_or items i x → x ≡ get_or rows i []
read_row rows items i x same within is = rw (← same) (read_is items i x [] (rw same within) is)

-- where neither of two tests passes
pub neither : (a b : Bool) → (a || b) ≡ false → (a ≡ false) × (b ≡ false)
neither = or_parts

-- the first element that passes has a place
pub position_first : {X : Type 0} (p : X → Bool) (xs : List X) (k : ℕ) (d : X) → k < length xs
    → p (get_or xs k d) ≡ true → ((i : ℕ) → i < k → p (get_or xs i d) ≡ false)
    → position p xs ≡ Some k
position_first p xs k d within passes fail =
    let at : position_or_len p xs ≡ k = position_or_len_is p xs k d (omega arith) fail
    (λ _. passes) in
    rw at (grind (arith, nat_tests))

-- the place of the first element that passes, by the first element
pub position_cons : {X : Type 0} (p : X → Bool) (x : X) (xs : List X)
    → position p (x ∷ xs) ≡ cond (p x) (Some 0) (option_map (λ i. i + 1) (position p xs))
position_cons p x xs = grind (arith, nat_tests, cases_Bool (p x))

-- where no element passes none has
pub position_none : {X : Type 0} (p : X → Bool) (xs : List X) → list_any p xs ≡ false
    → position p xs ≡ None
position_none p [] none = refl
position_none p (x ∷ xs) none =
    let parts = or_parts (p x) (list_any p xs) none in
    rw (position_cons p x xs, parts.0, position_none p xs parts.1) refl

-- what a list's first element, or the rest, contains
pub Contains-head : {X : Type 0} (x : X) (xs : List X) → Contains (x ∷ xs) x
Contains-head x xs = Contains-append_left (x ∷ []) xs x (Contains-push [] x)

pub Contains-tail : {X : Type 0} (x y : X) (xs : List X) → Contains xs y → Contains (x ∷ xs) y
Contains-tail x y xs there = Contains-append_right (x ∷ []) xs y there

-- what no search finds
pub not_found : {X : Type 0} (p : X → Bool) (xs : List X) → find p xs ≡ None
    → All (λ x. p x ≡ false) xs
not_found p [] is = All-nil (λ x. p x ≡ false)
not_found p (y ∷ ys) is =
    elim (cases_Bool (p y)) [
      | inl yes' ↦ let h = rw yes' at is in absurd (cc)
      | inr no' ↦ All-cons (λ x. p x ≡ false) y ys no' (not_found p ys (rw no' at is))
    ]

pub Contains-none : {X : Type 0} (x : X) → ¬ Contains [] x
Contains-none {X} x at = All-contains (λ (_ : X). ⊥) [] x (All-nil (λ (_ : X). ⊥)) at

pub Contains-cases : {X : Type 0} (y : X) (ys : List X) (x : X) → Contains (y ∷ ys) x → (y ≡ x)
    ⊎ Contains ys x
Contains-cases y ys x at =
    elim (Contains-append_cases (y ∷ []) ys x at) [
      | inl here ↦ inl (All-contains (λ z. y ≡ z) (y ∷ []) x
          (All-cons (λ z. y ≡ z) y [] refl (All-nil (λ z. y ≡ z))) here)
      | inr there ↦ inr there
    ]

pub Contains-filter : {X : Type 0} (p : X → Bool) (xs : List X) (x : X) → Contains xs x → p x ≡ true
    → Contains (filter p xs) x
Contains-filter p [] x at passes = at
Contains-filter p (y ∷ ys) x at passes =
    elim (Contains-cases y ys x at) [
      | inl same ↦ rw (same, passes) (Contains-head x (filter p ys))
      | inr there ↦
          let rest = Contains-filter p ys x there passes in
          elim (cases_Bool (p y)) [
            | inl kept ↦ rw kept (Contains-tail y x (filter p ys) rest)
            | inr left ↦ rw left rest
          ]
    ]
