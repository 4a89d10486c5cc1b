use Rattle.bip_review.specs.Drawing.{edges_text}
use Rattle.bip_review.specs.Writing.{IsInteractionShown}
use Rattle.bip_review.proofs.DrawingLemmas.{facts_more, no_facts}
use Rattle.bip_review.proofs.drawing.draw_interactions.Goals as goal

pub loop-number-init : goal.loop-number-init
loop-number-init c =
    no_facts (IsInteractionShown c.args.plan.now) edges_text c.args.text.now.items

pub loop-number-preserved : goal.loop-number-preserved
loop-number-preserved c =
    facts_more (IsInteractionShown c.args.plan.now) edges_text
    c.loop-number.number c.args.text.now.items c.loop-number.text.items
    c.draw_interaction.new.text.items c.loop-number.invariant c.in_ok-draw_interaction.ensures
