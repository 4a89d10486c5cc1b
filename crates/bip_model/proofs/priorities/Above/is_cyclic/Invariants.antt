use Rattle.std.proofs.Common.{ℕ, ◌<◌}
use Rattle.bip_model.specs.Priorities.{HasAbove}
use Rattle.bip_model.proofs.priorities.Above.is_cyclic.Given as goal

abbrev pub invariant-loop-number : goal.invariant-loop-number
invariant-loop-number l = (a : ℕ) → a < l.number → ¬ HasAbove l.self.pairs.now a a
