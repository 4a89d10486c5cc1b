use Rattle.std.proofs.Common.{ℕ, ◌<◌}
use Rattle.bip_host.specs.Waiting.{WaitsAt}
use Rattle.bip_model.specs.declared.grants.Grant.{Grant}
use Rattle.bip_host.proofs.places.waiting_with.Given as goal

abbrev pub invariant-loop-at : goal.invariant-loop-at
invariant-loop-at l = (k : ℕ) (g : Grant) → k < l.at → ¬ WaitsAt l.places k l.serial g
