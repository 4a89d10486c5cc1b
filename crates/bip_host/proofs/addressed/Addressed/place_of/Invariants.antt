use Rattle.bip_host.specs.Addressed.{LacksNumber}
use Rattle.bip_host.proofs.addressed.Addressed.place_of.Given as goal

abbrev pub invariant-loop-place : goal.invariant-loop-place
invariant-loop-place g l = LacksNumber l.number l.self.outlets.items l.place
