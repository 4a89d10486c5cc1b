use Rattle.std.proofs.Common.{◌-◌, ◌^◌}
use Rattle.bip_partition.proofs.LinkLemmas.{IsWithin}
use Rattle.bip_partition.proofs.tables.linked.Given as goal

abbrev pub invariant-loop-comp : goal.invariant-loop-comp
invariant-loop-comp l = IsWithin l.touches l.seeds l.set

abbrev pub decreases-loop-comp : goal.decreases-loop-comp
decreases-loop-comp l = 2 ^ 64 - l.set
