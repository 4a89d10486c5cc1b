use Rattle.bip_forks.proofs.NewLemmas.{AreBegun, new_content, new_is, new_kept}
use Rattle.bip_bank.proofs.StationLemmas.{few_stations}
use Rattle.bip_forks.proofs.OpeningLemmas.{stations_known}
use Rattle.bip_forks.proofs.forks.Forks.new.Goals as goal

pub first_stations-requires-clause-known : goal.first_stations-requires-clause-known
first_stations-requires-clause-known c = stations_known c.args.plan.now c.stations.result.now
    c.recall.ensures.valid c.stations.ensures

pub first_stations-requires-clause-few : goal.first_stations-requires-clause-few
first_stations-requires-clause-few c = few_stations c.args.plan.now c.stations.result.now
    c.recall.ensures.valid c.stations.ensures

pub invariant_of-result : goal.invariant_of-result
invariant_of-result c =
    let are : AreBegun c.args.plan.now c.args.base c.stations.result.now
    c.in_ok-stations.stations.items = record {
      valid = c.recall.ensures.valid;
      listed = c.stations.ensures;
      first = c.in_ok-stations.ensures;
    } in
    rw (c.new.ensures.items, c.new-2.ensures.items)
    (new_kept c.args.plan.now c.args.base c.stations.result.now c.in_ok-stations.stations.items
    are)

pub returns-clause-content : goal.returns-clause-content
returns-clause-content c =
    let are : AreBegun c.args.plan.now c.args.base c.stations.result.now
    c.in_ok-stations.stations.items = record {
      valid = c.recall.ensures.valid;
      listed = c.stations.ensures;
      first = c.in_ok-stations.ensures;
    } in
    rw (c.new.ensures.items, c.new-2.ensures.items)
    (new_content c.args.plan.now c.args.base c.stations.result.now
    c.in_ok-stations.stations.items are)

pub returns-clause-machine : goal.returns-clause-machine
returns-clause-machine c =
    let are : AreBegun c.args.plan.now c.args.base c.stations.result.now
    c.in_ok-stations.stations.items = record {
      valid = c.recall.ensures.valid;
      listed = c.stations.ensures;
      first = c.in_ok-stations.ensures;
    } in
    rw (c.new.ensures.items, c.new-2.ensures.items)
    (new_is c.args.plan.now c.args.base c.stations.result.now c.in_ok-stations.stations.items
    are)
