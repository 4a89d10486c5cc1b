use Rattle.std.proofs.Common.{refl, ◌∙◌}
use Rattle.bip_reader.proofs.WritingLemmas.{more_written}
use Rattle.bip_draw.specs.Charts.{lane_part}
use Rattle.bip_draw.proofs.charts.write_lanes.Goals as goal

pub loop-comp-preserved : goal.loop-comp-preserved
loop-comp-preserved c = c.in_ok-write_lane_part.ensures
    ∙ more_written (lane_part c.args.layout.now c.args.model.now.component_names c.args.rows)
    c.loop-comp.comp c.args.text.now.items c.loop-comp.text.items _ c.loop-comp.invariant
    (rw c.component_names-names.ensures.names refl)
