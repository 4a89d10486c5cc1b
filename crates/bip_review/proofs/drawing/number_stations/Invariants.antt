use Rattle.std.proofs.Common.{◌≡◌, ◌++◌}
use Rattle.std.specs.List.{flat_map, range_with_len}
use Rattle.bip_review.specs.Drawing.{station_label}
use Rattle.bip_review.proofs.drawing.number_stations.Given as goal

abbrev pub invariant-loop-number : goal.invariant-loop-number
invariant-loop-number l = l.text.items ≡ l.initial.text.items ++ flat_map (station_label l.plan l.stations)
    (range_with_len 0 l.number)
