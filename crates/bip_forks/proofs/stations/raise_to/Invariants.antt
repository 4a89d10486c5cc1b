use Rattle.std.proofs.Common.{◌≡◌, [], take}
use Rattle.bip_table.specs.Rows.{has_row, used_at}
use Rattle.bip_forks.specs.Stations.{raised_by}
use Rattle.bip_forks.proofs.stations.raise_to.Given as goal

abbrev pub invariant-loop-row : goal.invariant-loop-row
invariant-loop-row l =
    record {
      used : used_at l.table.rows ≡ raised_by (take l.row-index l.rows)
          (has_row l.initial.table.rows) (used_at l.initial.table.rows);
      tabled : has_row l.table.rows ≡ has_row l.initial.table.rows;
      journal : l.table.journal ≡ [];
      serial : l.table.serial ≡ l.initial.table.serial;
      room : l.table.room ≡ l.initial.table.room;
    }
