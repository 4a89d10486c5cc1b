-- How a bank begins: the table of a plan before any grant.
use Rattle.std.specs.Prelude.{◌≡◌, ◌↔◌, ℕ, List, [], map, Contains}
use Rattle.std.specs.List.Sorted.{IsStrictlyIncreasing}
use Rattle.bip_model.specs.declared.numbering.CompId.{CompId}
use Rattle.bip_partition.specs.Plans.{IsTabled, Planned}
use Rattle.bip_table.specs.Reservations.{KeptRows}
use Rattle.bip_table.specs.Rows.{rows_of}

-- the list of the components with a row, in order of their numbers
pub record IsListTabled (p : Planned) (list : List CompId) : Type 0 where
  pub rising : IsStrictlyIncreasing (map (λ (c : CompId). c.0) list)
  pub exact : (c : ℕ) → Contains list (record { 0 = c }) ↔ IsTabled p c

-- the table of a plan at the start: a row of each component that has one, whose floor and used
-- number are the base; no grant, and the first serial is 0
pub record IsOpening (p : Planned) (base : ℕ) (t : KeptRows) : Type 0 where
  pub list : List CompId
  pub tabled : IsListTabled p list
  pub rows : t.rows ≡ rows_of (map (λ (c : CompId). (c, base)) list)
  pub journal : t.journal ≡ []
  pub serial : t.serial ≡ 0
