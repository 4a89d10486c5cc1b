use Rattle.std.proofs.Common.{ℕ, ◌<◌}
use Rattle.bip_model.specs.Steps.{IsLookedAt}
use Rattle.bip_review.proofs.reasons.first_looking.Given as goal

abbrev pub invariant-loop-number : goal.invariant-loop-number
invariant-loop-number l = (k : ℕ) → k < l.number → ¬ IsLookedAt l.plan.model k l.comp.0
