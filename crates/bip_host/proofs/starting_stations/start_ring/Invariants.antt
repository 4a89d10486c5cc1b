use Rattle.std.specs.Prelude.{length}
use Rattle.bip_host.specs.Starting.{AreRingNodes, IsTokenAt}
use Rattle.bip_host.proofs.starting_stations.start_ring.Given as goal

abbrev pub invariant-loop-intake : goal.invariant-loop-intake
invariant-loop-intake l =
    AreRingNodes l.count l.nodes.items × IsTokenAt (length l.nodes.items) l.token
