use Rattle.std.proofs.Common.{arith}
use Rattle.std.proofs.lemmas.List.{take_all}
use Rattle.bip_review.proofs.DrawingLemmas.{no_station_edges, station_edges_more}
use Rattle.bip_review.proofs.drawing.draw_conflicts.Goals as goal

pub loop-station-init : goal.loop-station-init
loop-station-init c = no_station_edges c.args.plan.now c.args.text.now.items

pub loop-station-preserved : goal.loop-station-preserved
loop-station-preserved c =
    station_edges_more c.args.plan.now c.args.stations.now c.loop-station.station-index
    (record { 0 = 0 }) c.args.text.now.items c.loop-station.text.items
    c.draw_conflicts_of.new.text.items c.loop-station-test.true c.requires
    c.recall.ensures.planned c.loop-station.invariant c.in_ok-draw_conflicts_of.ensures

pub returns : goal.returns
returns c =
    rw (take_all c.loop-station.station-index c.args.stations.now (omega (
      arith,
      c.loop-station-test.false,
    ))) at c.loop-station.invariant
