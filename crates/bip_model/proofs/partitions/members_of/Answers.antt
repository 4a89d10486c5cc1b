use Rattle.bip_model.proofs.partitions.members_of.Goals as goal

pub in_order-requires : goal.in_order-requires
in_order-requires c = λ a. rw (c.as_slice.ensures.value, c.class-item.is)
    (c.requires c.loop-class.class-index _ c.loop-class-test.true a)
