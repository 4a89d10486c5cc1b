use Rattle.bip_review.specs.Writing.{none}
use Rattle.bip_review.proofs.StationLemmas.{one_station, station_reserved}
use Rattle.bip_review.proofs.writing.write_stations.Goals as goal

pub write_station-requires : goal.write_station-requires
write_station-requires c = station_reserved c.args.plan.now c.stations-stations.result.now
    c.loop-station.station-index (record { 0 = 0 }) c.stations-stations.ensures
    c.loop-station-test.true

pub loop-station-init : goal.loop-station-init
loop-station-init c = none

pub loop-station-preserved : goal.loop-station-preserved
loop-station-preserved c =
    one_station c.args.plan.now c.stations-stations.result.now c.loop-station.station-index
    (record { 0 = 0 }) c.args.text.now.items c.loop-station.text.items
    c.write_station.new.text.items c.loop-station-test.true c.loop-station.invariant
    c.in_ok-write_station.ensures
