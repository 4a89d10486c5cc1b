use Rattle.std.proofs.Common.{ℕ, ◌<◌}
use Rattle.bip_model.specs.Steps.{IsLookedAt}
use Rattle.bip_partition.proofs.tables.is_looked_at.Given as goal

abbrev pub invariant-loop-number : goal.invariant-loop-number
invariant-loop-number l = (a : ℕ) → a < l.number → ¬ IsLookedAt l.model a l.comp.0
