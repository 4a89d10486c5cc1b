use Rattle.std.proofs.Common.{◌≡◌, ◌++◌}
use Rattle.std.specs.List.{flat_map, range_with_len}
use Rattle.bip_draw.specs.Charts.{lane_part}
use Rattle.bip_draw.proofs.charts.write_lanes.Given as goal

abbrev pub invariant-loop-comp : goal.invariant-loop-comp
invariant-loop-comp l = l.text.items ≡ l.initial.text.items ++ flat_map
    (lane_part l.layout l.model.component_names l.rows) (range_with_len 0 l.comp)
