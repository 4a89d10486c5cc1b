-- The rows of a table: each of a component, with a number.
use Rattle.std.specs.Prelude.{◌≡◌, ◌≢◌, ℕ, zero, suc, ◌+◌, ◌≤◌, Bool, false, ◌==◌, if◌then◌else◌}
use Rattle.std.specs.Prelude.{List, [], ◌∷◌, length, map}
use Rattle.std.specs.Prelude.{All, Any}
use Rattle.std.specs.List.Sorted.{IsStrictlyIncreasing}
use mathlib.Core.Option.{some}
use lib.ListN.{get_elem?}
use Rattle.bip_model.specs.declared.numbering.CompId.{CompId}
use Rattle.bip_model.specs.declared.wants.Want.{Want}

-- the components of rows, in their order
abbrev pub row_comps : List (CompId × ℕ) → List ℕ
row_comps rows = map (λ e. e.0.0) rows

-- lists that can be the rows of one table
pub record IsRows (rows : List (CompId × ℕ)) : Type 0 where
  pub few : length rows ≤ 32
  pub rising : IsStrictlyIncreasing (row_comps rows)

-- the number of each component's row; 0 where it has none
abbrev pub floor_of : List (CompId × ℕ) → ℕ → ℕ
floor_of [] c = 0
floor_of (e ∷ es) c = if e.0.0 == c then e.1 else floor_of es c

-- the same rows, of which row r has another number
abbrev pub with_number : List (CompId × ℕ) → ℕ → ℕ → List (CompId × ℕ)
with_number [] r n = []
with_number (e ∷ es) zero n = (e.0, n) ∷ es
with_number (e ∷ es) (suc r) n = e ∷ with_number es r n

-- row r is the component's
abbrev pub IsRowOf : List ℕ → ℕ → ℕ → Type 0
IsRowOf comps r c = get_elem? comps r ≡ some c

-- the component of a want has a row
abbrev pub HasRow : List ℕ → Want → Type 0
HasRow comps w = (r : ℕ) × IsRowOf comps r w.comp.0

-- a wanted component without a row
abbrev pub WantsWithoutRow : List (CompId × ℕ) → List Want → ℕ → Type 0
WantsWithoutRow rows wants c =
    Any (λ (w : Want). w.comp.0 ≡ c) wants × All (λ (e : CompId × ℕ). e.0.0 ≢ c) rows

-- whether row r is the component's
abbrev pub is_row_of : List ℕ → ℕ → ℕ → Bool
is_row_of [] r c = false
is_row_of (d ∷ ds) zero c = d == c
is_row_of (d ∷ ds) (suc r) c = is_row_of ds r c

-- how many of the wants are of row r
abbrev pub wanted_at : List ℕ → ℕ → List Want → ℕ
wanted_at comps r [] = 0
wanted_at comps r (w ∷ ws) =
    (if is_row_of comps r w.comp.0 then 1 else 0) + wanted_at comps r ws
