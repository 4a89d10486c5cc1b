use Rattle.bip_host.specs.Starting.{AreForkNodes}
use Rattle.bip_host.proofs.starting_stations.start_forks.Given as goal

abbrev pub invariant-loop-intake : goal.invariant-loop-intake
invariant-loop-intake l = AreForkNodes l.plan l.nodes.items
