-- Pairs in order, and one more.
use Rattle.std.proofs.Common.{subst, sym, ◌⊎◌, ◌≡◌, ◌+◌, ◌≤◌, suc, unwrap_or, position, Bool, true}
use Rattle.std.proofs.Common.{false, cond, List, [], ◌∷◌, length, refl, ap, arith, inl, inr}
use Rattle.std.specs.Prelude.{All, Contains}
use Rattle.std.specs.List.{insert, list_all, list_any, position_or_len}
use Rattle.std.proofs.lemmas.Bool.{and_parts, cases_Bool, or_parts}
use Rattle.std.proofs.lemmas.Bool.Decides.{nat_tests}
use Rattle.std.proofs.lemmas.List.Elements.{All-cons, All-head, All-tail}
use Rattle.bip_model.specs.Laws.{PutsOnePair}
use Rattle.bip_model.specs.declared.parts.Pair.{Pair}
use Rattle.bip_model.specs.Priorities.{AreInOrder, is_before, is_same_pair, put_pair}
use Rattle.bip_model.proofs.ListLemmas.{Contains-cases, Contains-head, Contains-tail}

-- of two pairs that differ one is before the other
before_or_behind : (p q : Pair) → is_before p q ≡ false → is_same_pair p q ≡ false
    → is_before q p ≡ true
before_or_behind p q late differ = grind (arith, nat_tests)

before_too : (p q r : Pair) → is_before p q ≡ true → is_before q r ≡ true → is_before p r ≡ true
before_too p q r one two = grind (arith, nat_tests)

before_all : (p q : Pair) (rs : List Pair) → is_before p q ≡ true → list_all (is_before q) rs ≡ true
    → list_all (is_before p) rs ≡ true
before_all p q [] one all = refl
before_all p q (r ∷ rs) one all =
    let parts = and_parts (is_before q r) (list_all (is_before q) rs) all in
    rw (before_too p q r one parts.0, before_all p q rs one parts.1) refl

-- what is before all, and before one more, is before all with that one
before_put : (q p : Pair) (qs : List Pair) → is_before q p ≡ true → list_all (is_before q) qs ≡ true
    → list_all (is_before q) (put_pair p qs) ≡ true
before_put q p [] one all = rw one refl
before_put q p (r ∷ rs) one all =
    let parts = and_parts (is_before q r) (list_all (is_before q) rs) all in
    elim (cases_Bool (is_before p r)) [
      | inl here ↦ rw (here, one, parts.0, parts.1) refl
      | inr later ↦ rw (later, parts.0, before_put q p rs one parts.1) refl
    ]

pub put_in_order : (p : Pair) (qs : List Pair) → AreInOrder qs
    → list_any (is_same_pair p) qs ≡ false → AreInOrder (put_pair p qs)
put_in_order p [] order new = (refl, tt)
put_in_order p (q ∷ qs) order new =
    let parts = or_parts (is_same_pair p q) (list_any (is_same_pair p) qs) new in
    elim (cases_Bool (is_before p q)) [
      | inl here ↦ rw here ((rw here (before_all p q qs here order.0)), order)
      | inr later ↦ rw later (
        before_put q p qs (before_or_behind p q later parts.0) order.0,
        put_in_order p qs order.1 parts.1,
      )
    ]

pub put_all : (P : Pair → Type 0) (p : Pair) (qs : List Pair) → P p → All P qs
    → All P (put_pair p qs)
put_all P p [] one all = All-cons P p [] one all
put_all P p (q ∷ qs) one all =
    elim (cases_Bool (is_before p q)) [
      | inl here ↦ rw here (All-cons P p (q ∷ qs) one all)
      | inr later ↦ rw later (All-cons P q (put_pair p qs) (All-head P q qs all)
          (put_all P p qs one (All-tail P q qs all)))
    ]

pub put_keeps : (p r : Pair) (qs : List Pair) → Contains qs r → Contains (put_pair p qs) r
put_keeps p r [] at = Contains-tail p r [] at
put_keeps p r (q ∷ qs) at = by_first (is_before p q) (put_keeps p r qs)
  where
    by_first : (b : Bool) → (Contains qs r → Contains (put_pair p qs) r)
        → Contains (cond b (p ∷ q ∷ qs) (q ∷ put_pair p qs)) r
    by_first true later = Contains-tail p r (q ∷ qs) at
    by_first false later = elim (Contains-cases q qs r at) [
      | inl same ↦ subst (λ x. Contains (q ∷ put_pair p qs) x) same
          (Contains-head q (put_pair p qs))
      | inr there ↦ Contains-tail q r (put_pair p qs) (later there)
    ]

put_has : (p : Pair) (qs : List Pair) → Contains (put_pair p qs) p
put_has p [] = Contains-head p []
put_has p (q ∷ qs) = by_first (is_before p q) (put_has p qs)
  where
    by_first : (b : Bool) → Contains (put_pair p qs) p
        → Contains (cond b (p ∷ q ∷ qs) (q ∷ put_pair p qs)) p
    by_first true later = Contains-head p (q ∷ qs)
    by_first false later = Contains-tail q p (put_pair p qs) later

put_only : (p r : Pair) (qs : List Pair) → Contains (put_pair p qs) r → (r ≡ p) ⊎ Contains qs r
put_only p r [] at = elim (Contains-cases p [] r at)
    [ inl same ↦ inl (sym same) | inr there ↦ inr there ]
put_only p r (q ∷ qs) at = by_first (is_before p q) (put_only p r qs) at
  where
    by_first : (b : Bool) → (Contains (put_pair p qs) r → (r ≡ p) ⊎ Contains qs r)
        → Contains (cond b (p ∷ q ∷ qs) (q ∷ put_pair p qs)) r → (r ≡ p) ⊎ Contains (q ∷ qs) r
    by_first true later at = elim (Contains-cases p (q ∷ qs) r at)
        [ inl same ↦ inl (sym same) | inr there ↦ inr there ]
    by_first false later at = elim (Contains-cases q (put_pair p qs) r at) [
      | inl same ↦ inr (subst (λ x. Contains (q ∷ qs) x) same (Contains-head q qs))
      | inr there ↦ elim (later there) [
        | inl own ↦ inl own
        | inr old ↦
            inr (Contains-tail q r qs old)
      ]
    ]

pub puts_one : PutsOnePair
puts_one p r pairs = (
  put_only p r pairs,
  λ either. elim either [
    | inl same ↦
        subst (λ x. Contains (put_pair p pairs) x) (sym same) (put_has p pairs)
    | inr old ↦
        put_keeps p r pairs old
  ],
)

-- a pair is put at the place of the first one behind it
pub put_is_insert : (p : Pair) (qs : List Pair)
    → put_pair p qs ≡ insert qs (position_or_len (is_before p) qs) p
put_is_insert p [] = refl
put_is_insert p (q ∷ qs) =
    elim (cases_Bool (is_before p q)) [
      | inl here ↦ rw here refl
      | inr later ↦
          let next : 1 + position_or_len (is_before p) qs ≡ suc (position_or_len (is_before p) qs) =
          omega arith in
          rw (later, next) (ap (λ (xs : List Pair). q ∷ xs) (put_is_insert p qs))
    ]

-- a place is no further than the end
pub place_within : {X : Type 0} (p : X → Bool) (xs : List X) → position_or_len p xs ≤ length xs
place_within p [] = omega arith
place_within p (x ∷ xs) = grind (arith, nat_tests, place_within p xs)

pub place_or_end : {X : Type 0} (p : X → Bool) (xs : List X)
    → unwrap_or (position p xs) (length xs) ≡ position_or_len p xs
place_or_end p xs = grind (arith, nat_tests, place_within p xs)
