use Rattle.bip_model.specs.Partitions.{class_in}
use Rattle.bip_review.specs.Drawing.{member_text}
use Rattle.bip_review.proofs.DrawingLemmas.{one_number}
use Rattle.bip_review.proofs.drawing.draw_members.Goals as goal

pub loop-number-preserved : goal.loop-number-preserved
loop-number-preserved c =
    one_number
    (λ a. member_text c.args.plan.now c.args.class a (class_in c.args.plan.now.classes a))
    c.loop-number.number c.args.text.now.items c.loop-number.text.items
    c.draw_member.new.text.items c.loop-number.invariant c.in_ok-draw_member.ensures
