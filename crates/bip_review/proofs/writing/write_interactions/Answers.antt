use Rattle.bip_review.specs.Writing.{IsInteractionLine, none}
use Rattle.bip_review.proofs.WritingLemmas.{lines_more}
use Rattle.bip_review.proofs.writing.write_interactions.Goals as goal

pub loop-number-init : goal.loop-number-init
loop-number-init c = none

pub loop-number-preserved : goal.loop-number-preserved
loop-number-preserved c =
    lines_more (IsInteractionLine c.args.plan.now) c.args.text.now.items c.loop-number.number
    c.loop-number.text.items c.write_interaction.new.text.items c.loop-number.invariant
    c.in_ok-write_interaction.ensures
