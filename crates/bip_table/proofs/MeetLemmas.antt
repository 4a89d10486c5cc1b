-- A row that is lent for the first of wants, and the rows behind it.
use Rattle.std.proofs.Common.{◌≡◌, ℕ, zero, suc, ◌+◌, ◌-◌, ◌<◌, ◌≤◌, Bool, true, false, cond, List}
use Rattle.std.proofs.Common.{[], ◌∷◌, ◌++◌, map, length, get_or, set, take, drop, length-drop}
use Rattle.std.proofs.Common.{Option, None, Some, refl, sym, ap, ◌∙◌, subst, inl, inr, add-one}
use Rattle.std.proofs.Common.{arith}
use Rattle.std.specs.Prelude.{nat_le}
use Rattle.std.specs.List.Sorted.{IsStrictlyIncreasing}
use Rattle.std.proofs.lemmas.Bool.{cases_Bool, false≢true}
use Rattle.std.proofs.lemmas.Bool.Decides.{eqb_tells, nat_tests}
use Rattle.bip_model.proofs.NumberingLemmas.{Rises, increasing_from_rises, increasing_tail}
use Rattle.bip_model.proofs.NumberingLemmas.{rises_from_increasing}
use Rattle.bip_model.specs.Wants.{components_of}
use Rattle.bip_model.specs.declared.numbering.CompId.{CompId}
use Rattle.bip_model.specs.declared.wants.Want.{Want}
use Rattle.bip_table.proofs.LendLemmas.{met-step, renewed-step, row_same, written_at}
use Rattle.bip_table.proofs.RowLemmas.{place_comp, place_used}
use Rattle.bip_table.specs.Lending.{are_fresh, first_met, met, renewed, renewed_by, written_over}
use Rattle.bip_table.specs.Rows.{has_row, place_in, row_components}
use Rattle.bip_table.specs.declared.rows.Row.{Row}

all_taken : {X : Type 0} (xs : List X) → take (length xs) xs ≡ xs
all_taken [] = refl
all_taken {X = X} (x ∷ xs) = ap (λ (ys : List X). x ∷ ys) (all_taken xs)

-- what stands behind a place, up to the end
pub all_behind : {X : Type 0} (xs : List X) (k : ℕ) → take (length xs - k) (drop k xs) ≡ drop k xs
all_behind {X = X} xs k = subst (λ n. take n (drop k xs) ≡ drop k xs) (length-drop k xs)
    (all_taken (drop k xs))

-- the wants behind the first
abbrev pub later : List Want → List Want
later wants = take (length wants - 1) (drop 1 wants)

later_is : (w : Want) (ws : List Want) → later (w ∷ ws) ≡ ws
later_is w ws =
    let e : length (w ∷ ws) - 1 ≡ length ws = omega arith in
    rw e (all_taken ws)

row_there : (rows : List Row) (k : ℕ) (row : Row) (rest : List Row) (d : Row)
    → rows ≡ take k rows ++ row ∷ rest → k < length rows → get_or rows k d ≡ row
row_there [] k row rest d is within = absurd (omega arith)
row_there (x ∷ xs) zero row rest d is within = cc
row_there (x ∷ xs) (suc k) row rest d is within =
    let e : xs ≡ take k xs ++ row ∷ rest = cc in
    row_there xs k row rest d e (omega arith)

rises_behind : (rows : List Row) (n : ℕ) → Rises (row_components rows)
    → Rises (row_components (drop n rows))
rises_behind [] zero rises = tt
rises_behind [] (suc n) rises = tt
rises_behind (r ∷ rs) zero rises = rises
rises_behind (r ∷ rs) (suc n) rises = rises_behind rs n rises.1

pub record IsLent (rows : List Row) (wants : List Want) (k : ℕ) (row : Row) (rest : List Row)
    (d : Want) : Type 0 where
  pub rising : IsStrictlyIncreasing (row_components rows)
  pub order : IsStrictlyIncreasing (components_of wants)
  pub some_want : 0 < length wants
  pub within : k < length rows
  pub place : k ≡ place_in rows (get_or wants 0 d).comp.0
  pub there : has_row rows (get_or wants 0 d).comp.0 ≡ true
  pub parts : rows ≡ take k rows ++ row ∷ rest
  pub behind : rest ≡ drop (k + 1) rows

pub row_comp : (rows : List Row) (wants : List Want) (k : ℕ) (row : Row) (rest : List Row)
    (d : Want) → IsLent rows wants k row rest d → row.comp ≡ (get_or wants 0 d).comp
row_comp rows wants k row rest d l =
    let is : get_or rows (place_in rows (get_or wants 0 d).comp.0) row ≡ row =
    rw (← l.place) (row_there rows k row rest row l.parts l.within) in
    let e : row.comp.0 ≡ (get_or wants 0 d).comp.0 = sym (ap (λ (r : Row). r.comp.0) is)
    ∙ place_comp rows (get_or wants 0 d).comp.0 row l.there in
    ap (λ (n : ℕ). record { 0 = n }) e

pub rest_rising : (rows : List Row) (wants : List Want) (k : ℕ) (row : Row) (rest : List Row)
    (d : Want) → IsLent rows wants k row rest d → IsStrictlyIncreasing (row_components rest)
rest_rising rows wants k row rest d l =
    rw l.behind (increasing_from_rises (row_components (drop (k + 1) rows))
    (rises_behind rows (k + 1) (rises_from_increasing (row_components rows) l.rising)))

pub later_rising : (wants : List Want) → IsStrictlyIncreasing (components_of wants)
    → IsStrictlyIncreasing (components_of (later wants))
later_rising [] order = order
later_rising (w ∷ ws) order = subst (λ (vs : List Want). IsStrictlyIncreasing (components_of vs))
    (sym (later_is w ws)) (increasing_tail w.comp.0 (components_of ws) order)

pub later_shorter : (wants : List Want) → 0 < length wants → length (later wants) < length wants
later_shorter [] some_want = absurd (omega arith)
later_shorter (w ∷ ws) some_want = rw (later_is w ws) (omega arith)

pub meets_rest : (rows : List Row) (wants : List Want) (k : ℕ) (row : Row) (rest : List Row)
    (d : Want) (before : Option CompId) → IsLent rows wants k row rest d
    → met rest (later wants) (first_met before (get_or wants 0 d) row.used) ≡ met rows wants before
meets_rest rows [] k row rest d before l = absurd (omega (arith, l.some_want))
meets_rest rows (w ∷ ws) k row rest d before l =
    let is : get_or rows (place_in rows w.comp.0) row ≡ row =
    subst (λ (n : ℕ). get_or rows n row ≡ row) l.place
    (row_there rows k row rest row l.parts l.within) in
    let used = sym (ap (λ (r : Row). r.used) is) ∙ place_used rows w.comp.0 row l.there in
    let next : k + 1 ≡ suc (place_in rows w.comp.0) = omega (arith, l.place) in
    let behind : rest ≡ drop (suc (place_in rows w.comp.0)) rows = l.behind
    ∙ ap (λ (n : ℕ). drop n rows) next in
    rw (later_is w ws, behind, used) (sym (met-step rows w ws before l.rising l.order l.there))

written : (rows : List Row) (wants : List Want) (k : ℕ) (row : Row) (rest : List Row) (d : Want)
    (b : Bool) (x : Row) (ys : List Row) → IsLent rows wants k row rest d
    → x ≡ cond b (renewed_by (get_or wants 0 d) row) row
    → ys ≡ cond b (map (renewed (later wants)) rest) rest
    → set (take (k + 1) rows) k x ++ ys ≡ cond b (map (renewed wants) rows) rows
written rows [] k row rest d b x ys l first more = absurd (omega (arith, l.some_want))
written rows (w ∷ ws) k row rest d false x ys l first more =
    rw (add-one, first, more) (written_at rows k row rest l.within ∙ sym l.parts)
written rows (w ∷ ws) k row rest d true x ys l first more =
    let is : get_or rows (place_in rows w.comp.0) row ≡ row =
    subst (λ (n : ℕ). get_or rows n row ≡ row) l.place
    (row_there rows k row rest row l.parts l.within) in
    let next : k + 1 ≡ suc (place_in rows w.comp.0) = omega (arith, l.place) in
    let behind : rest ≡ drop (suc (place_in rows w.comp.0)) rows = l.behind
    ∙ ap (λ (n : ℕ). drop n rows) next in
    let step = renewed-step rows w ws row l.rising l.order l.there in
    let here : take (place_in rows w.comp.0) rows ++ renewed_by w row ∷ map (renewed ws) rest ≡ map
    (renewed (w ∷ ws)) rows = rw behind (sym (rw is at step)) in
    let all = subst (λ (n : ℕ). take n rows ++ renewed_by w row ∷ map (renewed ws) rest ≡ map
    (renewed (w ∷ ws)) rows) (sym l.place) here in
    rw (add-one, first, more, later_is w ws) (written_at rows k (renewed_by w row)
    (map (renewed ws) rest) l.within ∙ all)

pub writes : (rows : List Row) (wants : List Want) (k : ℕ) (row : Row) (rest : List Row) (d : Want)
    (g b : Bool) (x : Row) (ys : List Row) → IsLent rows wants k row rest d → g ≡ b
    → x ≡ cond g (renewed_by (get_or wants 0 d) row) row
    → ys ≡ cond b (map (renewed (later wants)) rest) rest
    → set (take (k + 1) rows) k x ++ ys ≡ cond b (map (renewed wants) rows) rows
writes rows wants k row rest d g b x ys l same first more =
    written rows wants k row rest d b x ys l (rw same at first) more

pub none_written : (rows : List Row) (wants : List Want) (b : Bool) → length wants < 1
    → rows ≡ cond b (map (renewed wants) rows) rows
none_written rows (w ∷ ws) b none = absurd (omega arith)
none_written rows [] false none = refl
none_written rows [] true none = all_same rows
  where
    all_same : (rs : List Row) → rs ≡ map (renewed []) rs
    all_same [] = refl
    all_same (r ∷ rs) = rw (← all_same rs, row_same r) refl

all_same : (rs : List Row) → map (renewed []) rs ≡ rs
all_same [] = refl
all_same (r ∷ rs) = rw (all_same rs, row_same r) refl

alone : (c : ℕ) → IsStrictlyIncreasing (c ∷ [])
alone c k within = absurd (omega arith)

-- one row raised, where its component has one
pub raises : (rows : List Row) (w : Want) (k : ℕ) (row : Row) (rest : List Row)
    → IsStrictlyIncreasing (row_components rows) → k < length rows → k ≡ place_in rows w.comp.0
    → has_row rows w.comp.0 ≡ true → rows ≡ take k rows ++ row ∷ rest → rest ≡ drop (k + 1) rows
    → (x : Row) → x ≡ renewed_by w row
    → set (take (k + 1) rows) k x ++ rest ≡ map (renewed (w ∷ [])) rows
raises rows w k row rest rising within place there parts behind x is =
    let l : IsLent rows (w ∷ []) k row rest w = record {
      rising = rising;
      order = alone w.comp.0;
      some_want = omega arith;
      within = within;
      place = place;
      there = there;
      parts = parts;
      behind = behind;
    } in
    written rows (w ∷ []) k row rest w true x rest l is (sym (rw (later_is w []) (all_same rest)))

-- and none where it has none
pub raises_none : (rows : List Row) (w : Want) → has_row rows w.comp.0 ≡ false
    → rows ≡ map (renewed (w ∷ [])) rows
raises_none [] w none = refl
raises_none (r ∷ rs) w none = elim (eqb_tells w.comp.0 r.comp.0) [
  | inl same ↦ elim (eqb_tells r.comp.0 w.comp.0) [
    | inl is ↦ let e = rw is.0 at none in absurd (cc)
    | inr isn't ↦
        absurd (isn't.1 (sym same.1))
  ]
  | inr other ↦ elim (eqb_tells r.comp.0 w.comp.0) [
    | inl is ↦ absurd (other.1 (sym is.1))
    | inr isn't ↦ rw (other.0, row_same r, ← raises_none rs w (rw isn't.0 at none)) refl
  ]
]

pub whole : (old w : List Row) → length w ≡ length old → written_over old w ≡ w
whole [] [] same = refl
whole [] (x ∷ xs) same = absurd (omega arith)
whole (y ∷ ys) [] same = absurd (omega arith)
whole (y ∷ ys) (x ∷ xs) same = ap (λ (zs : List Row). x ∷ zs) (whole ys xs (omega arith))

-- rows behind a place rise too
pub rising_after : (rows : List Row) (k : ℕ) → IsStrictlyIncreasing (row_components rows)
    → IsStrictlyIncreasing (row_components (drop k rows))
rising_after rows k rising = increasing_from_rises (row_components (drop k rows))
    (rises_behind rows k (rises_from_increasing (row_components rows) rising))

-- what one want meets alone
pub met_stale : (w : Want) (used : ℕ) → w.number ≤ used → first_met None w used ≡ Some w.comp
met_stale w used within =
    let e : nat_le w.number used ≡ true = grind (arith, nat_tests, within) in
    rw e refl

pub met_fresh : (w : Want) (used : ℕ) → used < w.number → first_met None w used ≡ None
met_fresh w used above =
    let e : nat_le w.number used ≡ false = grind (arith, nat_tests, above) in
    rw e refl

-- behind one that isn't fresh, not all are
pub not_all_fresh : (rows : List Row) (wants : List Want) (c : CompId)
    → are_fresh (met rows wants (Some c)) ≡ false
not_all_fresh rows [] c = refl
not_all_fresh rows (w ∷ ws) c = elim (cases_Bool (has_row rows w.comp.0)) [
  | inl row ↦ rw row (not_all_fresh rows ws c)
  | inr none ↦ rw none refl
]

-- where all wants are fresh, the later ones are in the rows behind the first one's
pub rest_fresh : (rows : List Row) (wants : List Want) (k : ℕ) (row : Row) (rest : List Row)
    (d : Want) → IsLent rows wants k row rest d → are_fresh (met rows wants None) ≡ true
    → are_fresh (met rest (later wants) None) ≡ true
rest_fresh rows wants k row rest d l fresh = by_first
    (first_met None (get_or wants 0 d) row.used) refl
  where
    all : are_fresh (met rest (later wants) (first_met None (get_or wants 0 d) row.used)) ≡ true
    all = ap are_fresh (meets_rest rows wants k row rest d None l) ∙ fresh

    by_first : (m : Option CompId) → first_met None (get_or wants 0 d) row.used ≡ m
        → are_fresh (met rest (later wants) None) ≡ true
    by_first None is = subst (λ (m : Option CompId). are_fresh (met rest (later wants) m) ≡ true) is
        all
    by_first (Some c) is = absurd (false≢true
        (sym (not_all_fresh rest (later wants) c)
        ∙ subst (λ (m : Option CompId). are_fresh (met rest (later wants) m) ≡ true) is all))

-- and the first is above the number of its row
pub first_fresh : (rows : List Row) (wants : List Want) (k : ℕ) (row : Row) (rest : List Row)
    (d : Want) → IsLent rows wants k row rest d → are_fresh (met rows wants None) ≡ true
    → row.used < (get_or wants 0 d).number
first_fresh rows wants k row rest d l fresh =
    elim (cases_Bool (nat_le (get_or wants 0 d).number row.used)) [
      | inl within ↦
          let stale : first_met None (get_or wants 0 d) row.used ≡ Some (get_or wants 0 d).comp =
          rw within refl in
          let all = ap are_fresh (meets_rest rows wants k row rest d None l) ∙ fresh in
          absurd (false≢true (sym (not_all_fresh rest (later wants) (get_or wants 0 d).comp)
          ∙ subst (λ (m : Option CompId). are_fresh (met rest (later wants) m) ≡ true) stale all))
      | inr above ↦ grind (arith, nat_tests, above)
    ]
