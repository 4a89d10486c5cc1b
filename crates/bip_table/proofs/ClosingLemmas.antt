-- Closing a locked table: the lowest component that differs, and the greatest number shown.
use Rattle.std.proofs.Common.{◌≡◌, ◌⊎◌, ℕ, ◌+◌, ◌<◌, true, eqb, eqb-true, List, [], ◌∷◌, map, max}
use Rattle.std.proofs.Common.{min, length, take, get_or, Option, None, Some, refl, ap, ◌∙◌, subst}
use Rattle.std.proofs.Common.{inl, inr, arith}
use Rattle.std.specs.Prelude.{All, IfNone, IfSome, IsTrue}
use Rattle.std.proofs.lemmas.Bool.{cases_Bool, cases_lt, cases_order}
use Rattle.std.proofs.lemmas.List.{get_or-take, length-take-le, map_more}
use Rattle.std.specs.List.Sorted.{IsStrictlyIncreasing}
use Rattle.bip_model.proofs.ListLemmas.{below_later}
use Rattle.bip_table.proofs.RowLemmas.{place_comp, place_within, row_is}
use Rattle.std.proofs.lemmas.List.Elements.{All-head, All-tail}
use Rattle.std.proofs.lemmas.List.Recursion.{max_push}
use Rattle.bip_model.specs.Numbering.{IsLowest}
use Rattle.bip_model.specs.declared.numbering.CompId.{CompId}
use Rattle.bip_table.specs.Closing.{Differs, IsAsTold, IsFirstOther, greatest}
use Rattle.bip_table.specs.Passes.{Passed}
use Rattle.bip_table.specs.Reservations.{KeptRows}
use Rattle.bip_table.specs.Rows.{has_row, place_in, row_components}
use Rattle.bip_table.specs.declared.rows.Row.{Row}

-- what holds of the component of each row holds of each that has one
pub of_each : (P : ℕ → Type 0) (rows : List Row) (c : ℕ) → All (λ (r : Row). P r.comp.0) rows
    → has_row rows c ≡ true → P c
of_each P [] c all is = cc
of_each P (r ∷ rs) c all is = elim (cases_Bool (eqb r.comp.0 c)) [
  | inl same ↦ subst P (eqb-true r.comp.0 c same) (All-head (λ (r : Row). P r.comp.0) r rs all)
  | inr other ↦ of_each P rs c (All-tail (λ (r : Row). P r.comp.0) r rs all) (rw other at is)
]

module _ (opening : List Row) (passes : List Passed) (t : KeptRows) where
  -- of rows that rise, the first whose component doesn't agree
  pub first_differs : (rows : List Row) (i : ℕ) (d : Row)
      → IsStrictlyIncreasing (row_components rows) → i < length rows
      → All (λ (r : Row). IsAsTold opening passes t r.comp.0) (take i rows)
      → ¬ IsAsTold opening passes t (get_or rows i d).comp.0
      → IsFirstOther rows opening passes t (get_or rows i d).comp.0
  first_differs rows i d rising within before other = record {
    row = row_is rows (get_or rows i d).comp.0 i d within refl;
    other = other;
    lower = λ k below row.
        let j = place_in rows k in
        let here = place_comp rows k d row in
        let inside = place_within rows k row in
        let early : j < i = elim (cases_order i j) [
          | inl same ↦ absurd (omega (
            arith,
            below,
            here,
            ap (λ (n : ℕ). (get_or rows n d).comp.0) same,
          ))
          | inr (inl less) ↦ absurd (omega (
            arith,
            below,
            here,
            below_later (λ (r : Row). r.comp.0) rows rising i j d less inside,
          ))
          | inr (inr above) ↦ above
        ] in
        let at = before j d (omega (
          arith,
          early,
          within,
          length-take-le i rows (omega (arith, within)),
        )) in
        subst (IsAsTold opening passes t) (ap (λ (r : Row). r.comp.0) (get_or-take i rows j d early)
        ∙ here) at;
  }

  -- the first of the opening rows is the lowest, where those below it that have a row now agree
  pub lowest_before : (c : ℕ) → IsFirstOther opening opening passes t c
      → ((k : ℕ) → k < c → IsTrue (has_row t.rows k) → IsAsTold opening passes t k)
      → IsLowest (Differs opening passes t) c
  lowest_before c one rest = record {
    here = record { row = inl one.row; other = one.other };
    lower = λ k below differs. elim differs.row [
      | inl row ↦ differs.other (one.lower k below row)
      | inr row ↦ differs.other (rest k below row)
    ];
  }

  pub lowest_now : (c : ℕ) → IsFirstOther t.rows opening passes t c
      → ((k : ℕ) → k < c → IsTrue (has_row opening k) → IsAsTold opening passes t k)
      → IsLowest (Differs opening passes t) c
  lowest_now c one rest = record {
    here = record { row = inr one.row; other = one.other };
    lower = λ k below differs. elim differs.row [
      | inl row ↦ differs.other (rest k below row)
      | inr row ↦ differs.other (one.lower k below row)
    ];
  }

  -- where all opening rows agree, the first of those now is the lowest
  pub lowest_of_now : (rows : List Row) (o : Option CompId) → rows ≡ t.rows
      → All (λ (r : Row). IsAsTold opening passes t r.comp.0) opening
      → IfSome o (λ k. IsFirstOther rows opening passes t k.0)
      → IfSome o (λ k. IsLowest (Differs opening passes t) k.0)
  lowest_of_now rows None same all first = tt
  lowest_of_now rows (Some k) same all first =
      lowest_now k.0 (subst (λ (rs : List Row). IsFirstOther rs opening passes t k.0) same first)
      (λ j below row. of_each (IsAsTold opening passes t) opening j all row)

  -- where those now agree too, none differs
  pub none_differs : (rows : List Row) (o : Option CompId) → rows ≡ t.rows
      → All (λ (r : Row). IsAsTold opening passes t r.comp.0) opening
      → IfNone o (All (λ (r : Row). IsAsTold opening passes t r.comp.0) rows)
      → IfNone o ((c : ℕ) → (IsTrue (has_row opening c) ⊎ IsTrue (has_row t.rows c))
      → IsAsTold opening passes t c)
  none_differs rows (Some k) same all none = tt
  none_differs rows None same all none = λ c row. elim row [
    | inl r ↦ of_each (IsAsTold opening passes t) opening c all r
    | inr r ↦ of_each (IsAsTold opening passes t) rows c none
        (ap (λ (rs : List Row). has_row rs c) same ∙ r)
  ]

  pub lowest_of_both : (a b : ℕ) → IsFirstOther opening opening passes t a
      → IsFirstOther t.rows opening passes t b → IsLowest (Differs opening passes t) (min a b)
  lowest_of_both a b one other = elim (cases_lt b a) [
    | inl less ↦ subst (IsLowest (Differs opening passes t)) (omega (arith, less))
        (lowest_now b other (λ k below row. one.lower k (omega (arith, below, less)) row))
    | inr past ↦ subst (IsLowest (Differs opening passes t)) (omega (arith, past))
        (lowest_before a one (λ k below row. other.lower k (omega (arith, below, past)) row))
  ]

-- the greatest of one more
pub greatest_more : {X : Type 0} (f : X → ℕ) (xs : List X) (i : ℕ) (d : X) → i < length xs
    → greatest (map f (take (i + 1) xs)) ≡ max (greatest (map f (take i xs))) (f (get_or xs i d))
greatest_more f xs i d l = ap greatest (map_more f xs i d l)
    ∙ max_push greatest (λ n. n) refl (λ _ _. refl) (map f (take i xs)) (f (get_or xs i d))
