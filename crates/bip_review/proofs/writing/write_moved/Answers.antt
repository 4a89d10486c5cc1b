use Rattle.bip_review.proofs.WritingLemmas.{class_known}
use Rattle.bip_review.proofs.writing.write_moved.Goals as goal

pub write_class_name-requires : goal.write_class_name-requires
write_class_name-requires c = rw c.class_of.ensures
    (class_known c.args.plan.now c.args.inter.0 c.recall.ensures.planned c.requires)
