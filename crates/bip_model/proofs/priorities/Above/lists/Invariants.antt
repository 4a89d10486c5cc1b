use Rattle.bip_model.specs.Priorities.{AreListsAbove}
use Rattle.bip_model.proofs.priorities.Above.lists.Given as goal

abbrev pub invariant-loop-number : goal.invariant-loop-number
invariant-loop-number l = AreListsAbove l.self.pairs.now l.number l.lists
