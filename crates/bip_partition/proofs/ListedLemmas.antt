-- Lists of what has a property, one number after another.
use Rattle.std.proofs.Common.{◌≡◌, ◌⊎◌, ◌↔◌, ℕ, ◌+◌, ◌<◌, List, [], ◌∷◌, ◌++◌, length, get_or, map}
use Rattle.std.proofs.Common.{ap, sym, ◌∙◌, subst, arith, inl, inr, length-append, below_more}
use Rattle.std.specs.Prelude.{All, Contains}
use Rattle.std.specs.List.{AllByRecursion}
use Rattle.std.proofs.lemmas.Bool.{cases_order}
use Rattle.std.proofs.lemmas.List.{get_or_append_left, get_or_push, map_push}
use Rattle.std.proofs.lemmas.List.Elements.{All-map, Contains-append_cases, Contains-append_left}
use Rattle.std.proofs.lemmas.List.Elements.{Contains-append_right, Contains-get_or}
use Rattle.std.proofs.lemmas.List.Elements.{recursion_from_All}
use Rattle.bip_model.proofs.ListLemmas.{Contains-cases, Contains-head, Contains-none}
use Rattle.bip_model.proofs.NumberingLemmas.{Rises, increasing_from_rises, rises_from_increasing}
use Rattle.bip_partition.specs.Tables.{IsListBelow}

above_push : (x : ℕ) (xs : List ℕ) (n : ℕ) → AllByRecursion (λ y. x < y) xs → x < n
    → AllByRecursion (λ y. x < y) (xs ++ n ∷ [])
above_push x [] n all less = (less, tt)
above_push x (y ∷ ys) n all less = (all.0, above_push x ys n all.1 less)

rises_push : (xs : List ℕ) (n : ℕ) → Rises xs → AllByRecursion (λ x. x < n) xs
    → Rises (xs ++ n ∷ [])
rises_push [] n rises all = (tt, tt)
rises_push (x ∷ xs) n rises all = (above_push x xs n rises.0 all.0, rises_push xs n rises.1 all.1)

module _ {X : Type 0} (number : X → ℕ) (make : ℕ → X) (same : (n : ℕ) → number (make n) ≡ n)
    (back : (x : X) → make (number x) ≡ x) (P : ℕ → Type 0) where
  -- none is below 0
  pub none_below : IsListBelow number make P 0 []
  none_below = record {
    rising = λ k within. absurd (omega arith);
    exact = λ n. (
      λ at. absurd (Contains-none (make n) at),
      λ both. absurd (omega (arith, both.0)),
    );
  }

  module _ (bound : ℕ) (list : List X) (h : IsListBelow number make P bound list) where
    all_low : All (λ x. number x < bound) list
    all_low = λ k d within.
        let there : Contains list (get_or list k d) = Contains-get_or list k d within in
        ((h.exact (number (get_or list k d))).0 (rw (back (get_or list k d)) there)).0

    old_or_last : (n : ℕ) → Contains (list ++ make bound ∷ []) (make n) → (n ≡ bound)
        ⊎ Contains list (make n)
    old_or_last n at = elim (Contains-append_cases list (make bound ∷ []) (make n) at) [
      | inl old ↦ inr old
      | inr here ↦ elim (Contains-cases (make bound) [] (make n) here) [
        | inl is ↦ inl (sym (same n) ∙ (ap number (sym is) ∙ same bound))
        | inr none ↦ absurd (Contains-none (make n) none)
      ]
    ]

    -- one more that has it
    pub one_has : P bound → IsListBelow number make P (bound + 1) (list ++ make bound ∷ [])
    one_has has = record {
      rising =
          let low : All (λ n. n < number (make bound)) (map number list) =
          All-map (λ n. n < number (make bound)) number list (rw (same bound) all_low) in
          rw map_push (increasing_from_rises (map number list ++ number (make bound) ∷ [])
          (rises_push (map number list) (number (make bound))
          (rises_from_increasing (map number list) h.rising)
          (recursion_from_All (λ n. n < number (make bound)) (map number list) low)));
      exact = λ n. (
        λ at. elim (old_or_last n at) [
          | inl is ↦ (omega arith, rw is has)
          | inr old ↦ let both = (h.exact n).0 old in (omega (arith, both.0), both.1)
        ],
        λ both. elim (cases_order n bound) [
          | inl is ↦ rw is (Contains-append_right list (make bound ∷ []) (make bound)
              (Contains-head (make bound) []))
          | inr other ↦ elim other [
            | inl low ↦ Contains-append_left list (make bound ∷ []) (make n)
                ((h.exact n).1 (low, both.1))
            | inr high ↦ absurd (omega (arith, both.0))
          ]
        ],
      );
    }

    -- one more that hasn't
    pub one_lacks : ¬ P bound → IsListBelow number make P (bound + 1) list
    one_lacks lacks = record {
      rising = h.rising;
      exact = λ n. (
        λ at. let both = (h.exact n).0 at in (omega (arith, both.0), both.1),
        λ both. elim (cases_order n bound) [
          | inl is ↦ absurd (lacks (subst P is both.1))
          | inr other ↦ elim other [
            | inl low ↦ (h.exact n).1 (low, both.1)
            | inr high ↦ absurd (omega (arith, both.0))
          ]
        ],
      );
    }

    -- all that have it are below the bound
    pub exact_in_all : ((n : ℕ) → P n → n < bound) → (n : ℕ) → Contains list (make n) ↔ P n
    exact_in_all all n = (λ at. ((h.exact n).0 at).1, λ has. (h.exact n).1 (all n has, has))

-- something for each number in turn, and one more
pub one_more : {X : Type 0} (Q : ℕ → X → Type 0) (d : X) (n : ℕ) (xs : List X) (x : X)
    → length xs ≡ n → ((a : ℕ) → a < n → Q a (get_or xs a d)) → Q n x
    → (length (xs ++ x ∷ []) ≡ n + 1) × ((a : ℕ) → a < n + 1 → Q a (get_or (xs ++ x ∷ []) a d))
one_more Q d n xs x each all more = (
  rw (length-append xs (x ∷ [])) (omega arith),
  below_more _ _
      (λ a below. let within : a < length xs = omega arith in
      rw (get_or_append_left xs (x ∷ []) d a within) (all a below))
      (rw (get_or_push xs x d n each) more),
)
