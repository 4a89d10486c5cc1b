-- Closing a locked table: what is compared, and why one isn't closed.
use Rattle.std.specs.Prelude.{◌≡◌, ◌⊎◌, ℕ, ◌<◌, List, [], ◌∷◌, IsTrue, count_by, length}
use Rattle.std.specs.Prelude.{map, max, nat_lt, sum_by}
use Rattle.bip_model.specs.Numbering.{IsLowest}
use Rattle.bip_model.specs.Wants.{moved_in}
use Rattle.bip_model.specs.declared.grants.Grant.{Grant}
use Rattle.bip_table.specs.Locks.{Opened}
use Rattle.bip_table.specs.Passes.{Passed, count_at, shown_at}
use Rattle.bip_table.specs.Reservations.{KeptRows}
use Rattle.bip_table.specs.Rows.{has_row, used_at}
use Rattle.bip_table.specs.declared.locks.CloseFault.TheVariants.{PassesMissing, RowsDiffer}
use Rattle.bip_table.specs.declared.locks.CloseFault.{CloseFault}
use Rattle.bip_table.specs.declared.rows.Row.{Row}

-- how many grants move a component
abbrev pub moves_of : List Grant → ℕ → ℕ
moves_of gs c = count_by (λ (g : Grant). nat_lt 0 (moved_in g.wants c)) gs

abbrev pub greatest : List ℕ → ℕ
greatest [] = 0
greatest (n ∷ ns) = max n (greatest ns)

-- a component's row is as the lock was opened and as the passes tell: it is there now where it was
-- there then, with the same floor; the grants that move it are as many as the passes count
-- together; and its used number is the greatest that they were shown
pub record IsAsTold (opening : List Row) (passes : List Passed) (t : KeptRows) (c : ℕ)
    : Type 0 where
  pub row : has_row t.rows c ≡ has_row opening c
  pub floor : used_at t.floor c ≡ used_at opening c
  pub counts : moves_of t.journal c ≡ sum_by (λ (p : Passed). count_at p.tallies c) passes
  pub shown : greatest (map (λ (p : Passed). shown_at p.tallies c) passes) ≡ used_at t.rows c

-- a component has a row, now or at the opening, that isn't as it was told
pub record Differs (opening : List Row) (passes : List Passed) (t : KeptRows) (c : ℕ)
    : Type 0 where
  pub row : IsTrue (has_row opening c) ⊎ IsTrue (has_row t.rows c)
  pub other : ¬ IsAsTold opening passes t c

-- a lock is closed with its passes: with all of them, which have all grants together; the rows are
-- of the components that they were of at the opening; and each is as it was told
pub record IsClosedWith (o : Opened) (passes : List Passed) (t : KeptRows) : Type 0 where
  pub all : length passes ≡ o.passes
  pub grants : length t.journal ≡ sum_by (λ (p : Passed). p.grants) passes
  pub rows : (c : ℕ) → has_row t.rows c ≡ has_row o.rows c
  pub told : (c : ℕ) → IsTrue (has_row t.rows c) → IsAsTold o.rows passes t c

-- why a lock isn't closed: passes are missing, and the lock and those that there are come back; or
-- all are there, and have all grants together, but this is the lowest component whose row differs
abbrev pub IsCloseFault : {L : Type 0} → Opened → List Passed → CloseFault L → Type 0
IsCloseFault o passes (PassesMissing lock back) =
    (length passes < o.passes) × (lock ≡ o) × (back.items ≡ passes)
IsCloseFault o passes (RowsDiffer c t) =
    (length passes ≡ o.passes)
    × (length t.journal ≡ sum_by (λ (p : Passed). p.grants) passes)
    × IsLowest (Differs o.rows passes t) c.0

-- What contracts of private functions say.

-- the first of rows, by component, that isn't as it was told
pub record IsFirstOther (rows opening : List Row) (passes : List Passed) (t : KeptRows) (c : ℕ)
    : Type 0 where
  pub row : IsTrue (has_row rows c)
  pub other : ¬ IsAsTold opening passes t c
  pub lower : (k : ℕ) → k < c → IsTrue (has_row rows k) → IsAsTold opening passes t k
