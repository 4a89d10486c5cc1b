use Rattle.bip_host.specs.Forks.{SharesNoneTill}
use Rattle.bip_host.proofs.forks.ForkActor.next_shared.Given as goal

abbrev pub invariant-loop-place : goal.invariant-loop-place
invariant-loop-place l =
    SharesNoneTill l.self.neighbours.items l.station.decider l.from l.place
