use Rattle.bip_review.specs.Drawing.{class_cluster, members_text}
use Rattle.bip_review.proofs.DrawingLemmas.{one_number}
use Rattle.bip_review.proofs.drawing.draw_classes.Goals as goal

pub loop-number-preserved : goal.loop-number-preserved
loop-number-preserved c =
    one_number (λ k. class_cluster c.args.plan.now k (members_text c.args.plan.now k))
    c.loop-number.number c.args.text.now.items c.loop-number.text.items
    c.draw_class.new.text.items c.loop-number.invariant c.in_ok-draw_class.ensures
