-- What wants meet in rows, one want after another, and the rows that are written.
use Rattle.std.proofs.Common.{◌≡◌, ℕ, zero, suc, ◌+◌, ◌<◌, add-one, drop-cons, Bool, true, false}
use Rattle.std.proofs.Common.{cond, max, not, List, [], ◌∷◌, ◌++◌, map, length, get_or, set, take}
use Rattle.std.proofs.Common.{drop, find, Option, None, Some, refl, sym, ap, ◌∙◌, subst, inl, inr}
use Rattle.std.proofs.Common.{arith}
use Rattle.std.specs.Prelude.{All, IsTrue, nat_le}
use Rattle.std.specs.Option.{option_map}
use Rattle.std.specs.List.{AllByRecursion}
use Rattle.std.specs.List.Sorted.{IsStrictlyIncreasing}
use Rattle.std.proofs.lemmas.Bool.{cases_Bool}
use Rattle.std.proofs.lemmas.Bool.Decides.{eqb_tells}
use Rattle.std.proofs.lemmas.List.Elements.{All-cons, All-head, All-nil, All-tail}
use Rattle.bip_model.proofs.NumberingLemmas.{Rises, rises_from_increasing}
use Rattle.bip_model.specs.Wants.{components_of, is_moved, moved_in, raised}
use Rattle.bip_model.specs.declared.numbering.CompId.{CompId}
use Rattle.bip_model.specs.declared.wants.Want.{Want}
use Rattle.bip_table.specs.Lending.{first_met, met, met_in_all, renewed, renewed_by}
use Rattle.bip_table.specs.Rows.{has_row, place_in, row_components, used_at}
use Rattle.bip_table.specs.declared.lending.Met.TheVariants.{Unknown}
use Rattle.bip_table.specs.declared.rows.Row.{Row}

-- the component of a want, and whether the want isn't fresh
abbrev pub comp_of : Want → CompId
comp_of w = w.comp

abbrev pub is_met : List Row → Want → Bool
is_met rows w = nat_le w.number (used_at rows w.comp.0)

-- wants above a component don't move it
moved_below : (ws : List Want) (c : ℕ) → AllByRecursion (λ y. c < y) (components_of ws)
    → moved_in ws c ≡ 0
moved_below [] c above = refl
moved_below (w ∷ ws) c above = elim (eqb_tells w.comp.0 c) [
  | inl same ↦ absurd (omega (arith, above.0, same.1))
  | inr other ↦ rw other.0 (moved_below ws c above.1)
]

-- a row behind a number is of a component above it
row_above : (rows : List Row) (n c : ℕ) → AllByRecursion (λ y. n < y) (row_components rows)
    → has_row rows c ≡ true → n < c
row_above [] n c above row = cc
row_above (r ∷ rs) n c above row = elim (eqb_tells r.comp.0 c) [
  | inl same ↦ omega (arith, above.0, same.1)
  | inr other ↦ row_above rs n c above.1 (rw other.0 at row)
]

-- rows behind the one of a component say what all rows do of later components
rest_says : (rows : List Row) (c k : ℕ) → Rises (row_components rows) → has_row rows c ≡ true
    → c < k
    → (has_row (drop (suc (place_in rows c)) rows) k ≡ has_row rows k)
    × (used_at (drop (suc (place_in rows c)) rows) k ≡ used_at rows k)
rest_says [] c k rises row later = cc
rest_says (r ∷ rs) c k rises row later = elim (eqb_tells r.comp.0 c) [
  | inl same ↦ elim (eqb_tells r.comp.0 k) [
    | inl is ↦ absurd (omega (arith, later, is.1, same.1))
    | inr isn't ↦ rw (same.0, isn't.0) (refl, refl)
  ]
  | inr other ↦
      let there = rw other.0 at row in
      let above = row_above rs r.comp.0 c rises.0 there in
      let rest = rest_says rs c k rises.1 there later in
      elim (eqb_tells r.comp.0 k) [
        | inl is ↦ absurd (omega (arith, later, is.1, above))
        | inr isn't ↦ rw (other.0, isn't.0) rest
      ]
]

-- wants meet the same in rows that say the same
met-same : (xs ys : List Row) (ws : List Want) (n : ℕ) (before : Option CompId)
    → AllByRecursion (λ y. n < y) (components_of ws)
    → ((k : ℕ) → n < k → (has_row xs k ≡ has_row ys k) × (used_at xs k ≡ used_at ys k))
    → met xs ws before ≡ met ys ws before
met-same xs ys [] n before above says = refl
met-same xs ys (w ∷ ws) n before above says =
    let here = says w.comp.0 above.0 in
    rw (here.0, here.1, met-same xs ys ws n (first_met before w (used_at ys w.comp.0)) above.1 says)
    refl

-- one want, and then the later ones in the rows behind its row
pub met-step : (rows : List Row) (w : Want) (ws : List Want) (before : Option CompId)
    → IsStrictlyIncreasing (row_components rows) → IsStrictlyIncreasing (components_of (w ∷ ws))
    → has_row rows w.comp.0 ≡ true
    → met rows (w ∷ ws) before ≡ met (drop (suc (place_in rows w.comp.0)) rows) ws
    (first_met before w (used_at rows w.comp.0))
met-step rows w ws before rising order row =
    let rises = rises_from_increasing (components_of (w ∷ ws)) order in
    rw row (sym (met-same (drop (suc (place_in rows w.comp.0)) rows) rows ws w.comp.0
    (first_met before w (used_at rows w.comp.0)) rises.0
    (λ k later. rest_says rows w.comp.0 k
    (rises_from_increasing (row_components rows) rising) row later)))

-- a want leaves rows of later components as the others do
renewed-later : (rows : List Row) (w : Want) (ws : List Want)
    → AllByRecursion (λ y. w.comp.0 < y) (row_components rows)
    → map (renewed (w ∷ ws)) rows ≡ map (renewed ws) rows
renewed-later [] w ws above = refl
renewed-later (r ∷ rs) w ws above = elim (eqb_tells w.comp.0 r.comp.0) [
  | inl same ↦ absurd (omega (arith, above.0, same.1))
  | inr other ↦ rw (other.0, renewed-later rs w ws above.1) refl
]

row_is : (r : Row) (n : ℕ) → n ≡ r.used → record r { used = n } ≡ r
row_is r n is = ap (λ (m : ℕ). record r { used = m }) is

pub row_same : (r : Row) → renewed [] r ≡ r
row_same r = row_is r (max r.used 0) (omega arith)

renewed-before : (r : Row) (ws : List Want) → AllByRecursion (λ y. r.comp.0 < y) (components_of ws)
    → renewed ws r ≡ r
renewed-before r ws above = row_is r (max r.used (moved_in ws r.comp.0))
    (omega (arith, moved_below ws r.comp.0 above))

renewed-here : (r : Row) (w : Want) (ws : List Want) → r.comp.0 ≡ w.comp.0
    → AllByRecursion (λ y. w.comp.0 < y) (components_of ws) → renewed (w ∷ ws) r ≡ renewed_by w r
renewed-here r w ws same above = by_role (is_moved w.role) refl
  where
    none : moved_in ws r.comp.0 ≡ 0
    none = rw same (moved_below ws w.comp.0 above)

    by_role : (b : Bool) → is_moved w.role ≡ b
        → renewed (w ∷ ws) r ≡ cond b (record r { used = max r.used w.number }) r
    by_role true e = elim (eqb_tells w.comp.0 r.comp.0)
        [ inl is ↦ rw (is.0, e) refl | inr isn't ↦ absurd (isn't.1 (sym same)) ]
    by_role false e = elim (eqb_tells w.comp.0 r.comp.0) [
      | inl is ↦ rw (is.0, e) (row_is r (max r.used (moved_in ws r.comp.0)) (omega (arith, none)))
      | inr isn't ↦ absurd (isn't.1 (sym same))
    ]

all_above : (ws : List Want) (n m : ℕ) → n < m → AllByRecursion (λ y. m < y) (components_of ws)
    → AllByRecursion (λ y. n < y) (components_of ws)
all_above [] n m less above = tt
all_above (w ∷ ws) n m less above = (omega (arith, less, above.0), all_above ws n m less above.1)

-- one want's row, and then the later ones in the rows behind it
renewed-step_rises : (rows : List Row) (w : Want) (ws : List Want) (d : Row)
    → Rises (row_components rows) → Rises (components_of (w ∷ ws)) → has_row rows w.comp.0 ≡ true
    → map (renewed (w ∷ ws)) rows ≡ take (place_in rows w.comp.0) rows ++ renewed_by w
    (get_or rows (place_in rows w.comp.0) d) ∷ map (renewed ws)
    (drop (suc (place_in rows w.comp.0)) rows)
renewed-step_rises [] w ws d rises order row = cc
renewed-step_rises (r ∷ rs) w ws d rises order row = elim (eqb_tells r.comp.0 w.comp.0) [
  | inl same ↦
      let later : AllByRecursion (λ y. w.comp.0 < y) (row_components rs) =
      subst (λ (n : ℕ). AllByRecursion (λ y. n < y) (row_components rs)) same.1 rises.0 in
      rw (same.0, renewed-here r w ws same.1 order.0, renewed-later rs w ws later) refl
  | inr other ↦
      let there = rw other.0 at row in
      let above = row_above rs r.comp.0 w.comp.0 rises.0 there in
      rw (
        other.0,
        renewed-before r (w ∷ ws) (above, all_above ws r.comp.0 w.comp.0 above order.0),
        renewed-step_rises rs w ws d rises.1 order there,
      ) refl
]

pub renewed-step : (rows : List Row) (w : Want) (ws : List Want) (d : Row)
    → IsStrictlyIncreasing (row_components rows) → IsStrictlyIncreasing (components_of (w ∷ ws))
    → has_row rows w.comp.0 ≡ true
    → map (renewed (w ∷ ws)) rows ≡ take (place_in rows w.comp.0) rows ++ renewed_by w
    (get_or rows (place_in rows w.comp.0) d) ∷ map (renewed ws)
    (drop (suc (place_in rows w.comp.0)) rows)
renewed-step rows w ws d rising order row = renewed-step_rises rows w ws d
    (rises_from_increasing (row_components rows) rising)
    (rises_from_increasing (components_of (w ∷ ws)) order) row

-- a list whose element at a place is written
pub written_at : {X : Type 0} (xs : List X) (k : ℕ) (x : X) (ys : List X) → k < length xs
    → set (take (suc k) xs) k x ++ ys ≡ take k xs ++ x ∷ ys
written_at [] k x ys within = absurd (omega arith)
written_at (z ∷ zs) zero x ys within = refl
written_at {X = X} (z ∷ zs) (suc k) x ys within =
    ap (λ (vs : List X). z ∷ vs) (written_at zs k x ys (omega arith))

-- the first component without a row
pub met-err : (rows : List Row) (wants : List Want) (before : Option CompId) (c : CompId)
    → met rows wants before ≡ Unknown c → option_map (λ (w : Want). w.comp)
    (find (λ (w : Want). not (has_row rows w.comp.0)) wants) ≡ Some c
met-err rows [] None c is = cc
met-err rows [] (Some d) c is = cc
met-err rows (w ∷ ws) before c is = elim (cases_Bool (has_row rows w.comp.0)) [
  | inl row ↦ rw row (met-err rows ws (first_met before w (used_at rows w.comp.0)) c (rw row at is))
  | inr none ↦ let e = rw none at is in let same : w.comp ≡ c = cc in
      rw none (ap (λ (x : CompId). Some x) same)
]

-- what the first that isn't fresh meets, where something was met before
abbrev first_of : Option CompId → Option CompId → Option CompId
first_of (Some r) later = Some r
first_of None later = later

pub met-ok_first : (rows : List Row) (wants : List Want) (before x : Option CompId)
    → met rows wants before ≡ met_in_all x
    → All (λ (w : Want). IsTrue (has_row rows w.comp.0)) wants
    × (x ≡ first_of before (option_map comp_of (find (is_met rows) wants)))
met-ok_first rows [] None None is = (All-nil (λ (w : Want). IsTrue (has_row rows w.comp.0)), refl)
met-ok_first rows [] None (Some c) is = cc
met-ok_first rows [] (Some c) None is = cc
met-ok_first rows [] (Some c) (Some d) is = let same : c ≡ d = cc in
    (All-nil (λ (w : Want). IsTrue (has_row rows w.comp.0)), ap (λ (x : CompId). Some x) (sym same))
met-ok_first rows (w ∷ ws) before x is = elim (cases_Bool (has_row rows w.comp.0)) [
  | inl row ↦
      let rest = met-ok_first rows ws (first_met before w (used_at rows w.comp.0)) x
      (rw row at is) in (
        All-cons (λ (v : Want). IsTrue (has_row rows v.comp.0)) w ws row rest.0,
        rest.1 ∙ joined before,
      )
  | inr none ↦ absurd (not_all w.comp x (rw none at is))
]
  where
    not_all : (c : CompId) (x : Option CompId) → Unknown c ≡ met_in_all x → ⊥
    not_all c None is = cc
    not_all c (Some d) is = cc

    found : Option CompId
    found = option_map comp_of (find (is_met rows) ws)

    by_test : (t : Bool) → first_of (cond t (Some (comp_of w)) None) found ≡ option_map comp_of
        (cond t (Some w) (find (is_met rows) ws))
    by_test true = refl
    by_test false = refl

    joined : (b : Option CompId) → first_of (first_met b w (used_at rows w.comp.0)) found
        ≡ first_of b (option_map comp_of (cond (is_met rows w) (Some w) (find (is_met rows) ws)))
    joined None = by_test (is_met rows w)
    joined (Some r) = refl

pub met-ok : (rows : List Row) (wants : List Want) (before x : Option CompId)
    → met rows wants before ≡ met_in_all x
    → All (λ (w : Want). IsTrue (has_row rows w.comp.0)) wants
    × (x ≡ first_of before (option_map comp_of (find (is_met rows) wants)))
met-ok = met-ok_first

-- the components of rows that are written
pub renewed-components : (rows : List Row) (ws : List Want)
    → row_components (map (renewed ws) rows) ≡ row_components rows
renewed-components [] ws = refl
renewed-components (r ∷ rs) ws = ap (λ (cs : List ℕ). r.comp.0 ∷ cs) (renewed-components rs ws)

-- and their used numbers
used-renewed : (rows : List Row) (ws : List Want) (c : ℕ)
    → used_at (map (renewed ws) rows) c ≡ cond (has_row rows c)
    (max (used_at rows c) (moved_in ws c)) 0
used-renewed [] ws c = refl
used-renewed (r ∷ rs) ws c = elim (eqb_tells r.comp.0 c) [
  | inl same ↦ rw (same.0, same.1) refl
  | inr other ↦ rw other.0 (used-renewed rs ws c)
]

used_without : (rows : List Row) (c : ℕ) → has_row rows c ≡ false → used_at rows c ≡ 0
used_without [] c none = refl
used_without (r ∷ rs) c none = elim (eqb_tells r.comp.0 c) [
  | inl same ↦ let e = rw same.0 at none in absurd (cc)
  | inr other ↦ rw other.0 (used_without rs c (rw other.0 at none))
]

moved_without : (rows : List Row) (ws : List Want) (c : ℕ)
    → All (λ (w : Want). IsTrue (has_row rows w.comp.0)) ws → has_row rows c ≡ false
    → moved_in ws c ≡ 0
moved_without rows [] c all none = refl
moved_without rows (w ∷ ws) c all none =
    let rest = moved_without rows ws c (All-tail
    (λ (v : Want). IsTrue (has_row rows v.comp.0)) w ws all) none in
    elim (eqb_tells w.comp.0 c) [
      | inl same ↦
          let row : has_row rows w.comp.0 ≡ true =
          All-head (λ (v : Want). IsTrue (has_row rows v.comp.0)) w ws all in
          let e : true ≡ false = sym row ∙ (ap (has_row rows) same.1 ∙ none) in absurd (cc)
      | inr other ↦ rw other.0 rest
    ]

pub renewed-used : (rows : List Row) (ws : List Want) (c : ℕ)
    → All (λ (w : Want). IsTrue (has_row rows w.comp.0)) ws
    → used_at (map (renewed ws) rows) c ≡ raised (used_at rows) ws c
renewed-used rows ws c all = used-renewed rows ws c ∙ elim (cases_Bool (has_row rows c)) [
  | inl row ↦ rw row refl
  | inr none ↦ rw (none, used_without rows c none, moved_without rows ws c all none) refl
]

-- one want more was looked up, and has a row
pub met-next : (rows : List Row) (wants : List Want) (i : ℕ) (w : Want) (stale : Option CompId)
    → i < length wants → has_row rows (get_or wants i w).comp.0 ≡ true
    → met rows (drop i wants) stale ≡ met rows (drop (i + 1) wants)
    (first_met stale (get_or wants i w) (used_at rows (get_or wants i w).comp.0))
met-next rows wants i w stale within row = rw (drop-cons wants i w within, row, add-one) refl

-- and has none
pub met-stop : (rows : List Row) (wants : List Want) (i : ℕ) (w : Want) (stale : Option CompId)
    → i < length wants → has_row rows (get_or wants i w).comp.0 ≡ false
    → met rows (drop i wants) stale ≡ Unknown (get_or wants i w).comp
met-stop rows wants i w stale within none = rw (drop-cons wants i w within, none) refl
