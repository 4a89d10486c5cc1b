use Rattle.std.proofs.Common.{arith}
use Rattle.bip_bank.proofs.StationLemmas.{few_stations}
use Rattle.bip_schedule.proofs.drawing.event_of.Goals as goal

pub step_of-requires : goal.step_of-requires
step_of-requires c =
    let few = few_stations c.args.plan.now c.stations-stations.result.now c.recall.ensures.valid
    c.stations-stations.ensures in
    omega (arith, few)
