use Rattle.bip_host.specs.Starting.{AreNeighboursBelow}
use Rattle.bip_host.proofs.starting_stations.neighbours.Given as goal

abbrev pub invariant-loop-other : goal.invariant-loop-other
invariant-loop-other l = AreNeighboursBelow l.plan.model l.stations l.place l.other l.list.items
