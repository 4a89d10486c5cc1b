use Rattle.std.proofs.Common.{◌<◌, arith, length}
use Rattle.bip_table.specs.Reservations.{end_of_serials}
use Rattle.bip_forks.proofs.StationLemmas.{undecided}
use Rattle.bip_forks.proofs.sending.decide.Goals as goal

pub unreachable-requires : goal.unreachable-requires
unreachable-requires c =
    let few : length c.args.grants.now.items < end_of_serials = omega arith in
    undecided c.args.stations.now.items c.args.grants.now.items c.args.station.0
    c.index_mut.result.now c.serve.new.self c.requires.answer c.requires.known
    c.index_mut.ensures.value c.requires.ready
    (rw c.in-None.is at c.in_ok-request.ensures.none) few
