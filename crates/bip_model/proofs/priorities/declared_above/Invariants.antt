use Rattle.std.proofs.Common.{take}
use Rattle.bip_model.specs.Priorities.{AreDeclaredAbove}
use Rattle.bip_model.proofs.priorities.declared_above.Given as goal

abbrev pub invariant-loop-pair : goal.invariant-loop-pair
invariant-loop-pair l = AreDeclaredAbove (take l.pair-index l.pairs) l.sets
