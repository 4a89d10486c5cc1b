use Rattle.std.proofs.Common.{take}
use Rattle.bip_review.specs.Drawing.{AddsStationEdges}
use Rattle.bip_review.proofs.drawing.draw_conflicts.Given as goal

abbrev pub invariant-loop-station : goal.invariant-loop-station
invariant-loop-station l = AddsStationEdges l.plan (take l.station-index l.stations)
    l.initial.text.items l.text.items
