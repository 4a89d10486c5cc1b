use Rattle.std.proofs.Common.{arith, refl}
use Rattle.bip_schedule.proofs.BusyLemmas.{one_spelled, some_spelled}
use Rattle.bip_bank.proofs.StationLemmas.{few_stations}
use Rattle.bip_schedule.proofs.busy.busy_event.Goals as goal

pub take-requires : goal.take-requires
take-requires g c =
    let few = few_stations c.plan-plan.result.now c.stations-stations.result.now
    c.recall.ensures.valid c.stations-stations.ensures in
    record {
      few = omega (arith, few);
      counted = (
        c.stations-stations.result.now,
        rw c.plan-plan.ensures at c.stations-stations.ensures,
        refl,
      );
    }

pub take-requires-2 : goal.take-requires-2
take-requires-2 g c =
    let few = few_stations c.plan-plan.result.now c.stations-stations.result.now
    c.recall.ensures.valid c.stations-stations.ensures in
    record {
      few = omega (arith, few);
      counted = (
        c.stations-stations.result.now,
        rw c.plan-plan.ensures at c.stations-stations.ensures,
        refl,
      );
    }

pub take-requires-3 : goal.take-requires-3
take-requires-3 g c =
    let few = few_stations c.plan-plan.result.now c.stations-stations.result.now
    c.recall.ensures.valid c.stations-stations.ensures in
    record {
      few = omega (arith, few);
      counted = (
        c.stations-stations.result.now,
        rw c.plan-plan.ensures at c.stations-stations.ensures,
        refl,
      );
    }

pub returns-in-Some-clause-spelled : goal.returns-in-Some-clause-spelled
returns-in-Some-clause-spelled g c =
    one_spelled c.args.world.now.plan c.stations-stations.result.now c.in-Some.event
    (rw c.plan-plan.ensures at c.stations-stations.ensures) c.in-Some.ensures.spelled

pub returns-in-Some-take-clause-spelled : goal.returns-in-Some-take-clause-spelled
returns-in-Some-take-clause-spelled g c =
    one_spelled c.args.world.now.plan c.stations-stations.result.now c.in-Some-take.event
    (rw c.plan-plan.ensures at c.stations-stations.ensures) c.in-Some-take.ensures.spelled

pub returns-clause-spelled : goal.returns-clause-spelled
returns-clause-spelled g c =
    some_spelled c.args.world.now.plan c.stations-stations.result.now c.take-3.result
    (rw c.plan-plan.ensures at c.stations-stations.ensures) c.take-3.ensures.spelled
