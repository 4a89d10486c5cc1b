use Rattle.std.proofs.Common.{ap, ◌∙◌}
use Rattle.bip_table.specs.Reservations.{Reservations}
use Rattle.bip_table.specs.Rows.{has_row, used_at}
use Rattle.bip_forks.proofs.RowLemmas.{raise_more}
use Rattle.bip_forks.proofs.stations.raise_to.Goals as goal

pub loop-row-preserved : goal.loop-row-preserved
loop-row-preserved c =
    let old = c.loop-row.invariant in
    let raised = c.raise.ensures.raised in
    record {
      used = ap (λ (t : Reservations). t.used) raised
          ∙ raise_more c.args.rows.now c.loop-row.row-index _ (has_row c.loop-row.table.rows)
          (has_row c.args.table.now.rows) (used_at c.loop-row.table.rows)
          (used_at c.args.table.now.rows) c.loop-row-test.true old.tabled old.used;
      tabled = ap (λ (t : Reservations). t.tabled) raised ∙ old.tabled;
      journal = ap (λ (t : Reservations). t.journal) raised ∙ old.journal;
      serial = ap (λ (t : Reservations). t.serial) raised ∙ old.serial;
      room = c.raise.ensures.room ∙ old.room;
    }
