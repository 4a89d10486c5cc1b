-- A table behind a lock, as it was opened.
use Rattle.std.specs.Prelude.{ℕ, List}
use Rattle.bip_table.specs.declared.rows.Row.{Row}

-- a lock as it was opened: how many passes it has, and the rows with their floor
pub record Opened : Type 0 where
  pub passes : ℕ
  pub rows : List Row
