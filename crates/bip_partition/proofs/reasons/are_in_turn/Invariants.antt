use Rattle.std.proofs.Common.{◌≡◌, ℕ, ◌<◌, Some, slice_get}
use Rattle.bip_model.specs.declared.numbering.InterId.{InterId}
use Rattle.bip_partition.specs.Reasons.{IsReasonFor}
use Rattle.bip_partition.proofs.reasons.are_in_turn.Given as goal

abbrev pub invariant-loop-place : goal.invariant-loop-place
invariant-loop-place l =
    (k : ℕ) (b : InterId) → k < l.place → slice_get l.above k ≡ Some b
    → IsReasonFor l.model l.wants b.0 (slice_get l.reasons k)
