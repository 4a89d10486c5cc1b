use Rattle.std.proofs.Common.{◌≡◌, ℕ, ◌<◌, Some, slice_get}
use Rattle.bip_model.specs.declared.reasons.Why.{Why}
use Rattle.bip_core.specs.Accepting.{HasReason}
use Rattle.bip_core.proofs.accepting.has_reasons.Given as goal

abbrev pub invariant-loop-place : goal.invariant-loop-place
invariant-loop-place l =
    (k : ℕ) (y : Why) → k < l.place → slice_get l.reasons k ≡ Some y → HasReason l.plan y
