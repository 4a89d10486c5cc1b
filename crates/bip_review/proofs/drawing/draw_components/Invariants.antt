use Rattle.bip_review.specs.Drawing.{AddsFacts, component_ellipse}
use Rattle.bip_review.specs.Writing.{IsComponentShown}
use Rattle.bip_review.proofs.drawing.draw_components.Given as goal

abbrev pub invariant-loop-number : goal.invariant-loop-number
invariant-loop-number l = AddsFacts (IsComponentShown l.plan) (component_ellipse l.plan) l.number
    l.initial.text.items l.text.items
