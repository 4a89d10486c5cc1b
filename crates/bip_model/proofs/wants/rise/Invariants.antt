use Rattle.std.proofs.Common.{ℕ, ◌+◌, ◌<◌, slice_index}
use Rattle.bip_model.specs.Wants.{components_of}
use Rattle.bip_model.proofs.wants.rise.Given as goal

abbrev pub invariant-loop-i : goal.invariant-loop-i
invariant-loop-i l = (k : ℕ) → k + 1 < l.i → slice_index (components_of l.wants) k < slice_index
    (components_of l.wants) (k + 1)
