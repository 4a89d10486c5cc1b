use Rattle.std.proofs.Common.{ℕ, ◌<◌}
use Rattle.bip_review.specs.Reasons.{StandsBeside}
use Rattle.bip_review.proofs.reasons.first_beside.Given as goal

abbrev pub invariant-loop-number : goal.invariant-loop-number
invariant-loop-number l = (k : ℕ) → k < l.number → ¬ StandsBeside l.plan l.comp.0 l.inter.0 k
