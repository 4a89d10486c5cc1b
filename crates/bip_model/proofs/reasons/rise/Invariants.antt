use Rattle.std.proofs.Common.{ℕ, ◌+◌, ◌<◌, slice_index}
use Rattle.bip_model.specs.Reasons.{inters_of}
use Rattle.bip_model.proofs.reasons.rise.Given as goal

abbrev pub invariant-loop-i : goal.invariant-loop-i
invariant-loop-i l = (k : ℕ) → k + 1 < l.i → slice_index (inters_of l.reasons) k < slice_index
    (inters_of l.reasons) (k + 1)
