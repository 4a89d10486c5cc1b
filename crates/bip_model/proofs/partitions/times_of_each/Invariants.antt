use Rattle.std.proofs.Common.{◌≡◌, ℕ, ◌<◌, min, slice_index, sum_by, take}
use Rattle.bip_model.specs.Partitions.{times_in}
use Rattle.bip_model.proofs.partitions.times_of_each.Given as goal

abbrev pub invariant-loop-class : goal.invariant-loop-class
invariant-loop-class l = (a : ℕ) → a < 128 → slice_index l.times a ≡ min
    (sum_by (λ c. times_in c.1.items a) (take l.class-index l.classes)) 255
