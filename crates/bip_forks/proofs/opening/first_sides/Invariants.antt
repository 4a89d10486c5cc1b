use Rattle.bip_forks.specs.Opening.{AreFirstSides}
use Rattle.bip_forks.proofs.opening.first_sides.Given as goal

abbrev pub invariant-loop-place : goal.invariant-loop-place
invariant-loop-place l = AreFirstSides l.plan l.base l.inters l.number.0 l.inter l.place
    l.sides
