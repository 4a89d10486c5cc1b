use Rattle.std.proofs.Common.{◌∙◌}
use Rattle.bip_table.specs.Rows.{has_row, used_at}
use Rattle.bip_forks.proofs.RowLemmas.{side_step}
use Rattle.bip_forks.proofs.SideLemmas.{listed_side}
use Rattle.bip_forks.specs.Sides.{listed_sides}
use Rattle.bip_forks.proofs.stations.raise_all.Goals as goal

pub loop-shared-preserved : goal.loop-shared-preserved
loop-shared-preserved c =
    let old = c.loop-shared.invariant in
    let at = listed_side c.listed-listed.result.now c.loop-shared.shared-index c.shared-item.result
    c.loop-shared-test.true c.shared-item.is in
    record {
      used = c.raise_by.ensures.used ∙ side_step (listed_sides c.listed-listed.result.now)
          c.loop-shared.shared-index c.shared-item.result.side (has_row c.loop-shared.table.rows)
          (has_row c.args.table.now.rows) (used_at c.loop-shared.table.rows)
          (used_at c.args.table.now.rows) at.0 at.1 old.tabled old.used;
      tabled = c.raise_by.ensures.tabled ∙ old.tabled;
      journal = c.raise_by.ensures.journal;
      serial = c.raise_by.ensures.serial ∙ old.serial;
      room = c.raise_by.ensures.room ∙ old.room;
    }
