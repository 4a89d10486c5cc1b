-- Lists by their elements: where an element of a list comes from, and how many pass a test. That
-- is all that the world's invariant asks of messages in flight, grants and open requests.
use Rattle.std.proofs.Common.{zero, suc, ◌≡◌, ℕ, ◌+◌, ◌≤◌, List, [], ◌∷◌, ◌++◌, Bool, true, false}
use Rattle.std.proofs.Common.{cond}
use Rattle.std.proofs.Common.{length, refl, sym, ap, ◌∙◌, subst, inl, inr, arith, ◌⊎◌, map, Some}
use Rattle.std.proofs.lemmas.Bool.{cases_Bool, cond-true, cond-false, false_from_ne_true}
use Rattle.std.specs.Prelude.{slice_get, All, Any, Contains, get_or, ◌<◌}
use Rattle.bip_core.specs.Lists.{In, count}

-- Elements

-- an element of one list is one of it and what follows
pub in-front : {X : Type 0} (x : X) (xs ys : List X) → In x xs → In x (xs ++ ys)
in-front x [] ys at = absurd at
in-front x (y ∷ xs) ys at = elim at [
  | inl first ↦ inl first
  | inr later ↦ inr (in-front x xs ys later)
]

-- also of what goes before it
pub in-back : {X : Type 0} (x : X) (xs ys : List X) → In x ys → In x (xs ++ ys)
in-back x [] ys at = at
in-back x (y ∷ xs) ys at = inr (in-back x xs ys at)

-- and what is one of both is one of the first or of the second
pub in-split : {X : Type 0} (x : X) (xs ys : List X) → In x (xs ++ ys) → In x xs ⊎ In x ys
in-split x [] ys at = inr at
in-split x (y ∷ xs) ys at = elim at [
  | inl first ↦ inl (inl first)
  | inr later ↦ elim (in-split x xs ys later) [
    | inl front ↦ inl (inr front)
    | inr back ↦ inr back
  ]
]

-- the element of a list of one is that one
pub in-one : {X : Type 0} (x y : X) → In x (y ∷ []) → x ≡ y
in-one x y at = elim at [
  | inl same ↦ same
  | inr none ↦ absurd none
]

-- an element of a list is one of it with another in between
pub in-wider : {X : Type 0} (x y : X) (xs ys : List X) → In x (xs ++ ys) → In x (xs ++ y ∷ ys)
in-wider x y xs ys at = elim (in-split x xs ys at) [
  | inl front ↦ in-front x xs (y ∷ ys) front
  | inr back ↦ in-back x xs (y ∷ ys) (inr back)
]

-- as the one between is
pub in-here : {X : Type 0} (x : X) (xs ys : List X) → In x (xs ++ x ∷ ys)
in-here x xs ys = in-back x xs (x ∷ ys) (inl refl)

-- an element of a list of values is the value of an element
pub in-map : {X Y : Type 0} (f : X → Y) (xs : List X) (y : Y) → In y (map f xs)
    → (x : X) × In x xs × (y ≡ f x)
in-map f [] y at = absurd at
in-map f (x ∷ xs) y at = elim at [
  | inl same ↦ (x, inl refl, same)
  | inr later ↦ let (v, among, is) = in-map f xs y later in (v, inr among, is)
]

-- and of each element there is its value
pub map-in : {X Y : Type 0} (f : X → Y) (xs : List X) (x : X) → In x xs → In (f x) (map f xs)
map-in f [] x at = absurd at
map-in f (y ∷ xs) x at = elim at [
  | inl same ↦ inl (ap f same)
  | inr later ↦ inr (map-in f xs x later)
]

-- a list without elements is empty
pub length-none : {X : Type 0} (xs : List X) → ((x : X) → ¬ In x xs) → length xs ≡ 0
length-none [] none = refl
length-none (x ∷ xs) none = absurd (none x (inl refl))

-- one with elements has some length
pub length-some : {X : Type 0} (x : X) (xs : List X) → In x xs → 1 ≤ length xs
length-some x [] at = absurd at
length-some x (y ∷ ys) at = omega arith

-- Elements by place

-- an element stands at some place
pub in-place : {X : Type 0} (x : X) (xs : List X) → In x xs
    → (k : ℕ) × (k < length xs) × ((d : X) → get_or xs k d ≡ x)
in-place x [] at = absurd at
in-place x (y ∷ xs) at = elim at [
  | inl same ↦ (0, omega arith, λ d. sym same)
  | inr later ↦ let (k, within, is) = in-place x xs later in (suc k, omega (arith, within), is)
]

-- which a lookup finds
pub in-slice_get : {X : Type 0} (x : X) (xs : List X) → In x xs
    → (k : ℕ) × (slice_get xs k ≡ Some x)
in-slice_get x [] at = absurd at
in-slice_get x (y ∷ xs) at = elim at [
  | inl same ↦ (0, ap Some (sym same))
  | inr later ↦ let (k, is) = in-slice_get x xs later in (suc k, is)
]

-- and what stands at a place is an element
place-in : {X : Type 0} (xs : List X) (k : ℕ) (d : X) → k < length xs → In (get_or xs k d) xs
place-in [] k d within = absurd (omega arith)
place-in (x ∷ xs) zero d within = inl refl
place-in (x ∷ xs) (suc k) d within = inr (place-in xs k d (omega arith))

-- what holds at all places holds of each element
pub All-each : {X : Type 0} (P : X → Type 0) (xs : List X) → All P xs → (x : X) → In x xs → P x
All-each P xs all x at = let (k, within, is) = in-place x xs at in subst P (is x) (all k x within)

-- what holds of each element holds at all places
pub each-All : {X : Type 0} (P : X → Type 0) (xs : List X) → ((x : X) → In x xs → P x) → All P xs
each-All P xs each k d within = each (get_or xs k d) (place-in xs k d within)

-- so a list contains its elements
pub in-Contains : {X : Type 0} (xs : List X) (x : X) → In x xs → Contains xs x
in-Contains xs x at = let (k, within, is) = in-place x xs at in (k, within, is x)

-- and they are all that it contains
pub Contains-in : {X : Type 0} (xs : List X) (x : X) → Contains xs x → In x xs
Contains-in xs x (k, within, is) = subst (λ y. In y xs) is (place-in xs k x within)

-- what holds at some place holds of some element
pub Any-one : {X : Type 0} (P : X → Type 0) (xs : List X) → Any P xs → (x : X) × In x xs × P x
Any-one P xs (k, x, within, is, so) = (x, subst (λ y. In y xs) is (place-in xs k x within), so)

-- what holds of one element holds at some place
pub one-Any : {X : Type 0} (P : X → Type 0) (xs : List X) (x : X) → In x xs → P x → Any P xs
one-Any P xs x at so = let (k, within, is) = in-place x xs at in (k, x, within, is x, so)

-- How many pass a test

-- an element that passes counts as one
pub passes-one : {X : Type 0} (test : X → Bool) (x : X) → test x ≡ true
    → cond {A = ℕ} (test x) 1 0 ≡ 1
passes-one test x passes = cond-true (test x) 1 0 passes

-- and another as none
pub fails-none : {X : Type 0} (test : X → Bool) (x : X) → test x ≡ false
    → cond {A = ℕ} (test x) 1 0 ≡ 0
fails-none test x fails = cond-false (test x) 1 0 fails

-- those of both lists pass
pub count-append : {X : Type 0} (test : X → Bool) (xs ys : List X)
    → count test (xs ++ ys) ≡ count test xs + count test ys
count-append test [] ys = omega arith
count-append test (x ∷ xs) ys = omega (arith, count-append test xs ys)

-- with another element in between
pub count-wider : {X : Type 0} (test : X → Bool) (y : X) (xs ys : List X)
    → count test (xs ++ y ∷ ys) ≡ cond (test y) 1 0 + count test (xs ++ ys)
count-wider test y xs ys = omega (arith, count-append test xs (y ∷ ys), count-append test xs ys)

-- and with one that passes
pub count-taken : {X : Type 0} (test : X → Bool) (y : X) (xs ys : List X) → test y ≡ true
    → count test (xs ++ y ∷ ys) ≡ 1 + count test (xs ++ ys)
count-taken test y xs ys passes =
    omega (arith, passes-one test y passes, count-wider test y xs ys)

-- an element that passes is counted
pub count-some : {X : Type 0} (test : X → Bool) (x : X) (xs : List X) → In x xs → test x ≡ true
    → 1 ≤ count test xs
count-some test x [] at passes = absurd at
count-some test x (y ∷ xs) at passes = elim at [
  | inl same ↦ omega (arith, passes-one test y (ap test (sym same) ∙ passes))
  | inr later ↦ omega (arith, count-some test x xs later passes)
]

-- none is counted where none passes
pub count-none : {X : Type 0} (test : X → Bool) (xs : List X)
    → ((x : X) → In x xs → ¬ (test x ≡ true)) → count test xs ≡ 0
count-none test [] none = refl
count-none test (x ∷ xs) none =
    let fails = false_from_ne_true (test x) (none x (inl refl)) in
    omega (arith, fails-none test x fails, count-none test xs (λ y at. none y (inr at)))

-- none is counted, or one passes
pub count-cases : {X : Type 0} (test : X → Bool) (xs : List X)
    → (count test xs ≡ 0) ⊎ ((x : X) × In x xs × (test x ≡ true))
count-cases test [] = inl refl
count-cases test (x ∷ xs) = elim (cases_Bool (test x)) [
  | inl passes ↦ inr (x, inl refl, passes)
  | inr fails ↦ elim (count-cases test xs) [
    | inl none ↦ inl (omega (arith, none, fails-none test x fails))
    | inr some ↦ let (y, at, passes) = some in inr (y, inr at, passes)
  ]
]

-- of a list of one, at most one is counted
pub count-one : {X : Type 0} (test : X → Bool) (x : X) → count test (x ∷ []) ≤ 1
count-one test x = elim (cases_Bool (test x)) [
  | inl passes ↦ omega (arith, passes-one test x passes)
  | inr fails ↦ omega (arith, fails-none test x fails)
]

-- where one is counted at most, two elements that pass are one
pub count-same : {X : Type 0} (test : X → Bool) (x y : X) (xs : List X) → count test xs ≤ 1
    → In x xs → In y xs → test x ≡ true → test y ≡ true → x ≡ y
count-same test x y [] few at also passes other = absurd at
count-same test x y (z ∷ xs) few at also passes other = elim at [
  | inl same ↦ elim also [
    | inl too ↦ same ∙ sym too
    | inr later ↦
        let here = passes-one test z (ap test (sym same) ∙ passes) in
        absurd (omega (arith, few, here, count-some test y xs later other))
  ]
  | inr later ↦ elim also [
    | inl too ↦
        let here = passes-one test z (ap test (sym too) ∙ other) in
        absurd (omega (arith, few, here, count-some test x xs later passes))
    | inr after ↦ count-same test x y xs (omega (arith, few)) later after passes other
  ]
]
