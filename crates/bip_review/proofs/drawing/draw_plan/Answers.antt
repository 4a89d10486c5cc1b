use Rattle.bip_review.proofs.DrawingLemmas.{plan_parts}
use Rattle.bip_review.proofs.drawing.draw_plan.Goals as goal

pub returns : goal.returns
returns c =
    plan_parts c.args.plan.now c.stations-stations.result.now _ _ _ _ _ _ _
    c.stations-stations.ensures (rw c.new-text.ensures.items at c.in_ok-write_front.ensures)
    c.in_ok-draw_classes.ensures c.in_ok-draw_components.ensures c.in_ok-draw_interactions.ensures
    c.in_ok-draw_conflicts.ensures c.in_ok-number_stations.ensures
    c.in_ok-extend_from_slice.ensures.items
