use Rattle.bip_partition.proofs.FootprintLemmas.{one_more_touched}
use Rattle.bip_partition.proofs.footprints.set_touched.Goals as goal

pub loop-member-preserved : goal.loop-member-preserved
loop-member-preserved c =
    one_more_touched c.args.footprints.now c.args.members.now c.loop-member.member-index _ _ _ _
    c.loop-member-test.true (c.requires c.loop-member.member-index _ c.loop-member-test.true)
    c.loop-member.invariant c.joined-set.ensures
