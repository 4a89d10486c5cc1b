use Rattle.std.specs.Prelude.{◌≡◌}
use Rattle.bip_host.proofs.starting_stations.fork_outlets.Given as goal

abbrev pub invariant-loop-other : goal.invariant-loop-other
invariant-loop-other l =
    (l.own.inboxes.now ≡ l.fn.stations.inboxes.now)
    × (l.stations.inboxes.now ≡ l.fn.stations.inboxes.now)
