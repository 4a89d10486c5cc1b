use Rattle.bip_review.proofs.WritingLemmas.{interaction_line, is_reserving, reserving_known}
use Rattle.bip_review.proofs.writing.write_interaction.Goals as goal

pub write_reserving-requires : goal.write_reserving-requires
write_reserving-requires c = reserving_known c.args.plan.now c.args.inter.0 c.reserving.result
    c.recall.ensures.valid c.reserving.ensures.some

pub returns : goal.returns
returns c =
    interaction_line c.args.plan.now c.args.inter.0 c.reserving.result _ _ _ _ _ _ _
    c.in_ok-extend_from_slice.ensures.items c.in_ok-write_inter_name.ensures
    c.in_ok-write_moved.ensures c.in_ok-write_looks.ensures c.in_ok-write_reserving.ensures
    c.in_ok-push.ensures.items
    (is_reserving c.args.plan.now c.args.inter.0 c.reserving.result c.reserving.ensures.some
    c.reserving.ensures.none)
