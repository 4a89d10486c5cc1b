use Rattle.std.proofs.Common.{ℕ, ◌<◌}
use Rattle.bip_review.specs.Reasons.{Joins}
use Rattle.bip_review.proofs.reasons.first_joining.Given as goal

abbrev pub invariant-loop-number : goal.invariant-loop-number
invariant-loop-number l = (k : ℕ) → k < l.number → ¬ Joins l.plan l.comp.0 k
