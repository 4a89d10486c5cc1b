use Rattle.std.proofs.Common.{refl, ◌∙◌}
use Rattle.bip_reader.proofs.WritingLemmas.{more_written}
use Rattle.bip_draw.specs.Charts.{legend_entry}
use Rattle.bip_draw.proofs.charts.write_legend.Goals as goal

pub loop-number-preserved : goal.loop-number-preserved
loop-number-preserved c = c.in_ok-write_legend_entry.ensures
    ∙ more_written (legend_entry c.args.classes.now) c.loop-number.number c.args.text.now.items
    c.loop-number.text.items _ c.loop-number.invariant refl
