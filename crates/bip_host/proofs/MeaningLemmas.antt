-- What a merge means: each list stands in it in order, and it has nothing else.
use Rattle.std.proofs.Common.{◌≡◌, ℕ, zero, suc, ◌+◌, ◌<◌, ◌≤◌, List, [], ◌∷◌, Bool, true, false}
use Rattle.std.proofs.Common.{cond, ltb, length, take, get_or, inl, inr, refl, sym, ap, ◌∙◌, subst}
use Rattle.std.proofs.Common.{eq-eqb, eqb-true, arith}
use Rattle.std.specs.Prelude.{if◌then◌else◌, ◌==◌}
use Rattle.std.specs.List.{count_by, sum_by}
use Rattle.std.proofs.lemmas.Bool.{cases_Bool, cases_lt, false≢true, le-ltb, lt-ltb}
use Rattle.std.proofs.lemmas.List.{take_all, take_more}
use Rattle.std.proofs.lemmas.List.Sums.{sum_by-append, sum_by-cons}
use Rattle.bip_host.specs.Laws.{MergesAddNothing, MergesKeepOrder, StandsIn}
use Rattle.bip_host.specs.Merges.{list_at, logged}
use Rattle.bip_host.proofs.MergeLemmas.{items_of}

module _ {M : Type 0} where
  -- ---- in order

  skipped : (l : List M) (y : M) (ys : List M) → StandsIn l ys → StandsIn l (y ∷ ys)
  skipped [] y ys at = tt
  skipped (x ∷ xs) y ys at = inr at

  stands_by : (b : Bool) (y : M) (l ys : List M) → StandsIn l ys
      → StandsIn (if b then y ∷ l else l) (y ∷ ys)
  stands_by true y l ys at = inl (refl, at)
  stands_by false y l ys at = skipped l y ys at

  logged_stands : (p : ℕ) (log : List (ℕ × M)) → StandsIn (logged p log) (items_of log)
  logged_stands p [] = tt
  logged_stands p (e ∷ es) = stands_by (e.0 == p) e.1 (logged p es) (items_of es)
      (logged_stands p es)

  list_at_within : (lists : List (List M)) (k : ℕ) (d : List M) → k < length lists
      → list_at lists k ≡ get_or lists k d
  list_at_within [] k d within = absurd (omega (arith, within))
  list_at_within (l ∷ ls) zero d within = refl
  list_at_within (l ∷ ls) (suc k) d within = list_at_within ls k d (omega (arith, within))

  list_at_past : (lists : List (List M)) (k : ℕ) → length lists ≤ k → list_at lists k ≡ []
  list_at_past [] k past = refl
  list_at_past (l ∷ ls) zero past = absurd (omega (arith, past))
  list_at_past (l ∷ ls) (suc k) past = list_at_past ls k (omega (arith, past))

  -- ---- nothing else

  some_there : (x : M) (xs : List M) → x ∷ xs ≡ [] → ⊥
  some_there x xs is = cc

  module _ (test : M → Bool) where
    abbrev one : M → ℕ
    one x = cond (test x) 1 0

    -- how many items under numbers below n pass
    abbrev below : ℕ → List (ℕ × M) → ℕ
    below n [] = 0
    below n (e ∷ es) = cond (ltb e.0 n) (one e.1) 0 + below n es

    below_none : (log : List (ℕ × M)) → below 0 log ≡ 0
    below_none [] = refl
    below_none (e ∷ es) = rw (le-ltb e.0 0 (omega arith))
        (let z : 0 + below 0 es ≡ 0 = omega (arith, below_none es) in z)

    counted_by : (b : Bool) (x : M) (l : List M)
        → count_by test (if b then x ∷ l else l) ≡ cond b (one x) 0 + count_by test l
    counted_by true x l = sum_by-cons one x l
    counted_by false x l = let z : count_by test l ≡ 0 + count_by test l = omega arith in z

    past_next : (k n : ℕ) → n ≤ k → ¬ (k ≡ n) → n + 1 ≤ k
    past_next k n over other = elim (cases_lt n k) [
      | inl less ↦ omega (arith, less)
      | inr most ↦ absurd (other (omega (arith, over, most)))
    ]

    -- below the next number is below this one, or at it
    split_at_it : (m n k : ℕ) → cond (ltb m (n + 1)) k 0 ≡ cond (ltb m n) k 0 + cond (m == n) k 0
    split_at_it m n k = elim (cases_Bool (m == n)) [
      | inl same ↦
          let is = eqb-true m n same in
          let low : ltb m (n + 1) ≡ true = lt-ltb m (n + 1) (omega (arith, is)) in
          let high : ltb m n ≡ false = le-ltb m n (omega (arith, is)) in
          rw (same, low, high) (let z : k ≡ 0 + k = omega arith in z)
      | inr other ↦
          let ne = λ (is : m ≡ n). false≢true (sym other ∙ eq-eqb m n is) in
          elim (cases_lt m n) [
            | inl under ↦
                let low : ltb m (n + 1) ≡ true = lt-ltb m (n + 1) (omega (arith, under)) in
                let same : ltb m n ≡ true = lt-ltb m n under in
                rw (other, low, same) (let z : k ≡ k + 0 = omega arith in z)
            | inr over ↦
                let low : ltb m (n + 1) ≡ false = le-ltb m (n + 1) (past_next m n over ne) in
                let same : ltb m n ≡ false = le-ltb m n over in
                rw (other, low, same) (let z : 0 ≡ 0 + 0 = omega arith in z)
          ]
    ]

    below_more : (n : ℕ) (log : List (ℕ × M))
        → below (n + 1) log ≡ below n log + count_by test (logged n log)
    below_more n [] = refl
    below_more n (e ∷ es) =
        let here : count_by test (logged n (e ∷ es)) ≡ cond (e.0 == n) (one e.1) 0 + count_by test
        (logged n es) = counted_by (e.0 == n) e.1 (logged n es) in
        let both : cond (ltb e.0 (n + 1)) (one e.1) 0 + below (n + 1) es
        ≡ (cond (ltb e.0 n) (one e.1) 0 + below n es) + count_by test (logged n (e ∷ es)) =
        omega (arith, here, split_at_it e.0 n (one e.1), below_more n es) in
        both

    sums_below : (lists : List (List M)) (log : List (ℕ × M))
        → ((p : ℕ) → logged p log ≡ list_at lists p) → (n : ℕ) → n ≤ length lists
        → sum_by (λ l. count_by test l) (take n lists) ≡ below n log
    sums_below lists log each zero within = sym (below_none log)
    sums_below lists log each (suc n) within =
        let next : suc n ≡ n + 1 = omega arith in
        let inside : n < length lists = omega (arith, within) in
        let here : count_by test (logged n log) ≡ count_by test (get_or lists n []) =
        ap (λ (l : List M). count_by test l) (each n ∙ list_at_within lists n [] inside) in
        let last : sum_by (λ l. count_by test l) (get_or lists n [] ∷ []) ≡ count_by test
        (get_or lists n []) + 0 = sum_by-cons (λ (l : List M). count_by test l)
        (get_or lists n []) [] in
        let rest = sums_below lists log each n (omega (arith, within)) in
        let parts = sum_by-append (λ (l : List M). count_by test l) (take n lists)
        (get_or lists n [] ∷ []) in
        rw (next, take_more lists n [] inside)
        (parts ∙ omega (arith, rest, here, last, below_more n log))

    -- no item stands under a number past the last
    all_below : (n : ℕ) (log : List (ℕ × M)) → ((p : ℕ) → n ≤ p → logged p log ≡ [])
        → below n log ≡ count_by test (items_of log)
    all_below n [] none = refl
    all_below n (e ∷ es) none = elim (cases_lt e.0 n) [
      | inl under ↦
          let rest = all_below n es (λ p past. later p past (e.0 == p) refl) in
          let here : count_by test (e.1 ∷ items_of es) ≡ one e.1 + count_by test (items_of es) =
          sum_by-cons one e.1 (items_of es) in
          rw (lt-ltb e.0 n under) (let z : one e.1 + below n es ≡ count_by test
          (e.1 ∷ items_of es) = omega (arith, rest, here) in z)
      | inr over ↦ absurd (some_there e.1 (logged e.0 es)
          (rw (eq-eqb e.0 e.0 refl) at (none e.0 over)))
    ]
      where
        later : (p : ℕ) → n ≤ p → (b : Bool) → (e.0 == p) ≡ b → logged p es ≡ []
        later p past true same = absurd (some_there e.1 (logged p es) (rw same at (none p past)))
        later p past false other = rw other at (none p past)

pub merges_keep_order : (M : Type 0) → MergesKeepOrder M
merges_keep_order M whole lists (log, items, each) k d within =
    subst (λ (l : List M). StandsIn l whole) (each k ∙ list_at_within lists k d within)
    (subst (StandsIn (logged k log)) items (logged_stands k log))

pub merges_add_nothing : (M : Type 0) → MergesAddNothing M
merges_add_nothing M whole lists (log, items, each) test =
    let all = all_below test (length lists) log (λ p past. each p ∙ list_at_past lists p past) in
    let sums = sums_below test lists log each (length lists) (omega arith) in
    let same = ap (λ (ls : List (List M)). sum_by (λ l. count_by test l) ls)
    (take_all (length lists) lists (omega arith)) in
    subst (λ (ys : List M). count_by test ys ≡ sum_by (λ l. count_by test l) lists) items
    (sym all ∙ (sym sums ∙ same))
