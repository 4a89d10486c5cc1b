-- Where forks are: one at each pair, whatever is sent and arrives.
use Rattle.std.proofs.Common.{◌≡◌, ◌≢◌, ℕ, ◌+◌, ◌≤◌, Bool, true, false, ◌&&◌, ◌||◌, cond, eqb}
use Rattle.std.proofs.Common.{eqb-true, eq-eqb, List, [], ◌∷◌, ◌++◌, refl, sym, ◌∙◌, inl, inr}
use Rattle.std.proofs.Common.{arith}
use Rattle.std.specs.Prelude.{◌⊎◌, Contains}
use Rattle.std.proofs.lemmas.Bool.{and_parts}
use Rattle.bip_model.proofs.ListLemmas.{Contains-cases, Contains-none}
use Rattle.bip_forks.specs.Machines.{Sending, asking, flying, joins, put_at_two, sent_fork}
use Rattle.bip_forks.specs.Machines.{sent_token}

-- a value of the changed function is the new one, or was there
pub put_cases : {X : Type 0} (f : ℕ → ℕ → X) (s t : ℕ) (x : X) (i j : ℕ) (y : X)
    → put_at_two f s t x i j ≡ y
    → ((i ≡ s) × (j ≡ t) × (x ≡ y)) ⊎ (f i j ≡ y)
put_cases f s t x i j y is = by_test (eqb i s && eqb j t) refl is
  where
    by_test : (b : Bool) → (eqb i s && eqb j t) ≡ b → cond b x (f i j) ≡ y
        → ((i ≡ s) × (j ≡ t) × (x ≡ y)) ⊎ (f i j ≡ y)
    by_test true both at = let parts = and_parts (eqb i s) (eqb j t) both in
        inl (eqb-true i s parts.0, eqb-true j t parts.1, at)
    by_test false other at = inr at

pub flying-append : (s t : ℕ) (xs ys : List Sending)
    → flying s t (xs ++ ys) ≡ flying s t xs + flying s t ys
flying-append s t [] ys = omega arith
flying-append s t (sent_fork a b n ∷ xs) ys = omega (arith, flying-append s t xs ys)
flying-append s t (sent_token a b ∷ xs) ys = flying-append s t xs ys

pub asking-append : (s t : ℕ) (xs ys : List Sending)
    → asking s t (xs ++ ys) ≡ asking s t xs + asking s t ys
asking-append s t [] ys = omega arith
asking-append s t (sent_fork a b n ∷ xs) ys = asking-append s t xs ys
asking-append s t (sent_token a b ∷ xs) ys = omega (arith, asking-append s t xs ys)

count_cond : {X : Type 0} (h : X → ℕ) (b : Bool) (x y : X) → h (cond b x y) ≡ cond b (h x) (h y)
count_cond h true x y = refl
count_cond h false x y = refl

-- counts at a pair, one of whose ends was changed: tests that say which end it was
sent_counts : (b1 b2 : Bool) (x y : ℕ) → (b1 ≡ true → x ≡ 1) → (b2 ≡ true → y ≡ 1)
    → (b1 ≡ true → b2 ≡ true → ⊥)
    → cond b1 0 x + cond b2 0 y + cond (b1 || b2) 1 0 ≡ x + y
sent_counts true true x y one other apart = absurd (apart refl refl)
sent_counts true false x y one other apart = omega (arith, one refl)
sent_counts false true x y one other apart = omega (arith, other refl)
sent_counts false false x y one other apart = omega arith

arrived_counts : (b1 b2 : Bool) (x y : ℕ) → (b1 ≡ true → x ≡ 0) → (b2 ≡ true → y ≡ 0)
    → (b1 ≡ true → b2 ≡ true → ⊥)
    → cond b1 1 x + cond b2 1 y ≡ x + y + cond (b1 || b2) 1 0
arrived_counts true true x y one other apart = absurd (apart refl refl)
arrived_counts true false x y one other apart = omega (arith, one refl)
arrived_counts false true x y one other apart = omega (arith, other refl)
arrived_counts false false x y one other apart = omega arith

-- the two tests of a pair can't both hold where its ends differ
apart_tests : (s t i j : ℕ) → s ≢ t → (eqb i s && eqb j t) ≡ true → (eqb j s && eqb i t) ≡ true → ⊥
apart_tests s t i j apart one other =
    let first = and_parts (eqb i s) (eqb j t) one in
    let second = and_parts (eqb j s) (eqb i t) other in
    apart (sym (eqb-true i s first.0) ∙ eqb-true i t second.1)

-- one that is sent from s to t
pub sent_count : {X : Type 0} (h : X → ℕ) (f : ℕ → ℕ → X) (s t : ℕ) (gone : X) (i j : ℕ) → s ≢ t
    → h (f s t) ≡ 1 → h gone ≡ 0
    → h (put_at_two f s t gone i j) + h (put_at_two f s t gone j i) + cond (joins s t i j) 1 0 ≡ h
    (f i j) + h (f j i)
sent_count h f s t gone i j apart is none =
    rw (
      count_cond h (eqb i s && eqb j t) gone (f i j),
      count_cond h (eqb j s && eqb i t) gone (f j i),
      none,
    )
    (sent_counts (eqb i s && eqb j t) (eqb j s && eqb i t) (h (f i j)) (h (f j i)) (lay i j)
    (lay j i) (apart_tests s t i j apart))
  where
    lay : (a b : ℕ) → (eqb a s && eqb b t) ≡ true → h (f a b) ≡ 1
    lay a b both =
        let parts = and_parts (eqb a s) (eqb b t) both in
        let one : a ≡ s = eqb-true a s parts.0 in
        let other : b ≡ t = eqb-true b t parts.1 in
        rw (one, other) is

-- one that arrives at s from t
pub arrived_count : {X : Type 0} (h : X → ℕ) (f : ℕ → ℕ → X) (s t : ℕ) (come : X) (i j : ℕ) → s ≢ t
    → h (f s t) ≡ 0 → h come ≡ 1
    → h (put_at_two f s t come i j) + h (put_at_two f s t come j i) ≡ h (f i j) + h (f j i) + cond
    (joins s t i j) 1 0
arrived_count h f s t come i j apart away one =
    rw (
      count_cond h (eqb i s && eqb j t) come (f i j),
      count_cond h (eqb j s && eqb i t) come (f j i),
      one,
    )
    (arrived_counts (eqb i s && eqb j t) (eqb j s && eqb i t) (h (f i j)) (h (f j i)) (none i j)
    (none j i) (apart_tests s t i j apart))
  where
    none : (a b : ℕ) → (eqb a s && eqb b t) ≡ true → h (f a b) ≡ 0
    none a b both =
        let parts = and_parts (eqb a s) (eqb b t) both in
        let first : a ≡ s = eqb-true a s parts.0 in
        let second : b ≡ t = eqb-true b t parts.1 in
        rw (first, second) away

swap_tests : (a b c d : Bool) → ((a && b) || (c && d)) ≡ ((d && c) || (b && a))
swap_tests true true true true = refl
swap_tests true true true false = refl
swap_tests true true false true = refl
swap_tests true true false false = refl
swap_tests true false true true = refl
swap_tests true false true false = refl
swap_tests true false false true = refl
swap_tests true false false false = refl
swap_tests false true true true = refl
swap_tests false true true false = refl
swap_tests false true false true = refl
swap_tests false true false false = refl
swap_tests false false true true = refl
swap_tests false false true false = refl
swap_tests false false false true = refl
swap_tests false false false false = refl

-- a pair is joined either way
pub joins_swap : (a b i j : ℕ) → joins a b i j ≡ joins b a i j
joins_swap a b i j = swap_tests (eqb i a) (eqb j b) (eqb j a) (eqb i b)

joins_self : (a b : ℕ) → joins a b a b ≡ true
joins_self a b = rw (eq-eqb a a refl, eq-eqb b b refl) refl

-- one that is in flight counts
pub flies : (s t : ℕ) (numbers : ℕ → ℕ) (xs : List Sending) → Contains xs (sent_fork s t numbers)
    → 1 ≤ flying s t xs
flies s t numbers [] has = absurd (Contains-none (sent_fork s t numbers) has)
flies s t numbers (x ∷ xs) has = elim (Contains-cases x xs (sent_fork s t numbers) has) [
  | inl same ↦ rw (same, joins_self s t) (omega arith)
  | inr rest ↦ omega (arith, flies s t numbers xs rest, more x)
]
  where
    more : (y : Sending) → flying s t xs ≤ flying s t (y ∷ xs)
    more (sent_fork a b n) = omega arith
    more (sent_token a b) = omega arith

pub flies_back : (s t : ℕ) (numbers : ℕ → ℕ) (xs : List Sending)
    → Contains xs (sent_fork t s numbers) → 1 ≤ flying s t xs
flies_back s t numbers xs has = rw (turned s t xs) (flies t s numbers xs has)
  where
    turned : (i j : ℕ) (ys : List Sending) → flying i j ys ≡ flying j i ys
    turned i j [] = refl
    turned i j (sent_fork a b n ∷ ys) = rw (turned i j ys, pair i j a b) refl
      where
        pair : (p q c d : ℕ) → joins c d p q ≡ joins c d q p
        pair p q c d = turn (eqb p c && eqb q d) (eqb q c && eqb p d)
          where
            turn : (u v : Bool) → (u || v) ≡ (v || u)
            turn true true = refl
            turn true false = refl
            turn false true = refl
            turn false false = refl
    turned i j (sent_token a b ∷ ys) = turned i j ys

-- the same of a request token in flight
pub asks : (s t : ℕ) (xs : List Sending) → Contains xs (sent_token s t) → 1 ≤ asking s t xs
asks s t [] there = absurd (Contains-none (sent_token s t) there)
asks s t (x ∷ xs) there = elim (Contains-cases x xs (sent_token s t) there) [
  | inl same ↦ rw (same, joins_self s t) (omega arith)
  | inr rest ↦ omega (arith, asks s t xs rest, more x)
]
  where
    more : (y : Sending) → asking s t xs ≤ asking s t (y ∷ xs)
    more (sent_fork a b n) = omega arith
    more (sent_token a b) = omega arith
