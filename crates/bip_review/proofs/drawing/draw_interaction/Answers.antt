use Rattle.bip_review.proofs.DrawingLemmas.{interaction_parts}
use Rattle.bip_review.proofs.WritingLemmas.{is_reserving}
use Rattle.bip_review.proofs.drawing.draw_interaction.Goals as goal

pub returns : goal.returns
returns c =
    interaction_parts c.args.plan.now c.args.inter.0 c.reserving.result _ _ _ _
    c.in_ok-draw_borders.ensures c.in_ok-draw_moved.ensures c.in_ok-draw_looks.ensures
    (is_reserving c.args.plan.now c.args.inter.0 c.reserving.result c.reserving.ensures.some
    c.reserving.ensures.none)
