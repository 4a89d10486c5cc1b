use Rattle.std.proofs.Common.{List, ◌-◌, ◌^◌}
use Rattle.bip_model.specs.Priorities.{AreDeclaredAbove}
use Rattle.bip_model.specs.declared.parts.Pair.{Pair}
use Rattle.bip_model.proofs.AboveLemmas.{IsGoneOn}
use Rattle.bip_model.proofs.priorities.set_above.Given as goal

abbrev pub invariant-loop-next : goal.invariant-loop-next
invariant-loop-next l = (pairs : List Pair) → AreDeclaredAbove pairs l.declared
    → IsGoneOn pairs l.fn.inter.0 l.set l.gone_on

abbrev pub decreases-loop-next : goal.decreases-loop-next
decreases-loop-next l = 2 ^ 128 - l.gone_on
