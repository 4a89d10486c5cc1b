use Rattle.std.specs.Prelude.{◌≤◌}
use Rattle.bip_host.proofs.starting_stations.count_neighbours.Given as goal

abbrev pub invariant-loop-other : goal.invariant-loop-other
invariant-loop-other l =
    l.count ≤ l.other
