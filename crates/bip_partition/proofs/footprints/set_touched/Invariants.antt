use Rattle.std.proofs.Common.{◌≡◌, ℕ, take}
use Rattle.bip_model.specs.Sets.{has}
use Rattle.bip_partition.specs.Tables.{touched_among}
use Rattle.bip_partition.proofs.footprints.set_touched.Given as goal

abbrev pub invariant-loop-member : goal.invariant-loop-member
invariant-loop-member l = (c : ℕ) → has l.set c ≡ touched_among l.footprints
    (take l.member-index l.members) c
