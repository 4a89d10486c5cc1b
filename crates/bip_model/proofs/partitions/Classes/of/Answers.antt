use Rattle.std.proofs.Common.{length, refl}
use Rattle.bip_model.proofs.PartitionLemmas.{classes_of_partition, differ_in_classes}
use Rattle.bip_model.proofs.partitions.Classes.of.Goals as goal

pub invariant_of-result : goal.invariant_of-result
invariant_of-result c =
    classes_of_partition (λ c'. c'.0) (λ c'. c'.1.items) _ c.args.classes.items
    (record {
      count = length c.interactions.result.now;
      names = c.in-Ok.names;
      members = c.in-Ok-members_of.members;
    })
    (rw c.as_slice.ensures.value at (c.are_partition.ensures.0 c.if-not-are_partition.false)) refl
    (rw c.as_slice-2.ensures.value at c.in-Ok.ensures)
    (rw c.as_slice-3.ensures.value at c.in-Ok-members_of.ensures)

pub members_of-requires : goal.members_of-requires
members_of-requires c =
    rw c.as_slice-3.ensures.value (differ_in_classes (λ c'. c'.0)
    (λ c'. c'.1.items) _ c.args.classes.items
    (rw c.as_slice.ensures.value at (c.are_partition.ensures.0 c.if-not-are_partition.false)))
