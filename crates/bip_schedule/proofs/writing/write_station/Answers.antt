use Rattle.bip_bank.proofs.StationLemmas.{station_declared}
use Rattle.bip_schedule.proofs.writing.write_station.Goals as goal

pub write_inter-requires : goal.write_inter-requires
write_inter-requires c =
    station_declared c.args.plan.now c.args.stations.now c.args.station.0
    (record { 0 = 0 }) c.recall.ensures.valid c.requires.stations c.requires.there
