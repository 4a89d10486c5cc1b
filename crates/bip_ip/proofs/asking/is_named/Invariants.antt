use Rattle.std.proofs.Common.{◌≡◌, ℕ, ◌<◌, Some, false, slice_get}
use Rattle.bip_model.specs.declared.reasons.Why.{Why}
use Rattle.bip_ip.specs.Asking.{names}
use Rattle.bip_ip.proofs.asking.is_named.Given as goal

abbrev pub invariant-loop-place : goal.invariant-loop-place
invariant-loop-place l =
    (k : ℕ) (y : Why) → k < l.place → slice_get l.reasons k ≡ Some y
    → names l.model y.inter.0 y.cause l.comp.0 ≡ false
