use Rattle.bip_host.specs.Starting.{AreComponentNodes}
use Rattle.bip_host.proofs.starting.start_components.Given as goal

abbrev pub invariant-loop-intake : goal.invariant-loop-intake
invariant-loop-intake l = AreComponentNodes l.plan l.nodes.items
