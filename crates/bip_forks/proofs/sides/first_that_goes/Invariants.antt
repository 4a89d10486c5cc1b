use Rattle.bip_forks.specs.Exchanges.{StaysSomehow}
use Rattle.bip_forks.specs.Sides.{ArePassed}
use Rattle.bip_forks.proofs.sides.first_that_goes.Given as goal

abbrev pub invariant-loop-place : goal.invariant-loop-place
invariant-loop-place l = ArePassed (StaysSomehow l.exchange) l.shared l.from l.place
