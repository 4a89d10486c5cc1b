use Rattle.std.proofs.Common.{ℕ, ◌<◌}
use Rattle.bip_partition.specs.Plans.{TouchesTooMany}
use Rattle.bip_partition.proofs.plans.first_touching_too_many.Given as goal

abbrev pub invariant-loop-number : goal.invariant-loop-number
invariant-loop-number l = (a : ℕ) → a < l.number → ¬ TouchesTooMany l.model a
