use Rattle.std.proofs.Common.{ℕ, ◌<◌}
use Rattle.bip_review.specs.Reasons.{ReservesThrough}
use Rattle.bip_review.proofs.reasons.reserving.Given as goal

abbrev pub invariant-loop-number : goal.invariant-loop-number
invariant-loop-number l = (k : ℕ) → k < l.number → ¬ ReservesThrough l.plan l.inter.0 k
