use Rattle.std.proofs.Common.{◌≡◌, [], take}
use Rattle.bip_table.specs.Rows.{has_row, used_at}
use Rattle.bip_forks.specs.Sides.{listed_sides}
use Rattle.bip_forks.specs.Stations.{raised_by, rows_here}
use Rattle.bip_forks.proofs.stations.raise_all.Given as goal

abbrev pub invariant-loop-shared : goal.invariant-loop-shared
invariant-loop-shared l =
    record {
      used : used_at l.table.rows
          ≡ raised_by (rows_here (take l.shared-index (listed_sides l.listed)))
          (has_row l.initial.table.rows) (used_at l.initial.table.rows);
      tabled : has_row l.table.rows ≡ has_row l.initial.table.rows;
      journal : l.table.journal ≡ [];
      serial : l.table.serial ≡ l.initial.table.serial;
      room : l.table.room ≡ l.initial.table.room;
    }
