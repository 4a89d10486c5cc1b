use Rattle.bip_review.specs.Drawing.{component_ellipse}
use Rattle.bip_review.specs.Writing.{IsComponentShown}
use Rattle.bip_review.proofs.DrawingLemmas.{facts_more, no_facts}
use Rattle.bip_review.proofs.drawing.draw_components.Goals as goal

pub loop-number-init : goal.loop-number-init
loop-number-init c =
    no_facts (IsComponentShown c.args.plan.now) (component_ellipse c.args.plan.now)
    c.args.text.now.items

pub loop-number-preserved : goal.loop-number-preserved
loop-number-preserved c =
    facts_more (IsComponentShown c.args.plan.now) (component_ellipse c.args.plan.now)
    c.loop-number.number c.args.text.now.items c.loop-number.text.items
    c.draw_component.new.text.items c.loop-number.invariant c.in_ok-draw_component.ensures
