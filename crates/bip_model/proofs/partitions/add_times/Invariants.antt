use Rattle.std.proofs.Common.{◌≡◌, ℕ, ◌+◌, ◌<◌, length, min, slice_index, take}
use Rattle.bip_model.specs.Partitions.{times_in}
use Rattle.bip_model.proofs.partitions.add_times.Given as goal

abbrev pub invariant-loop-inter : goal.invariant-loop-inter
invariant-loop-inter l = (a : ℕ) → a < length l.initial.times
    → slice_index l.times a ≡ min (slice_index l.initial.times a + times_in
    (take l.inter-index l.class) a) 255
