use Rattle.bip_model.proofs.PartitionLemmas.{unknown_before}
use Rattle.bip_model.proofs.partitions.names_of.Goals as goal

pub push-requires : goal.push-requires
push-requires c =
    rw (c.loop-class.invariant, c.class-item.is)
    (unknown_before (λ c'. c'.0) c.args.classes.now c.loop-class.class-index c.class-item.result
    c.requires c.loop-class-test.true)
