use Rattle.bip_model.specs.Steps.{AreListsLookedAt}
use Rattle.bip_model.proofs.parts.System.lists_looked_at.Given as goal

abbrev pub invariant-loop-number : goal.invariant-loop-number
invariant-loop-number l = AreListsLookedAt l.self l.number l.lists
