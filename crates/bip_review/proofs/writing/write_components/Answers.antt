use Rattle.bip_review.specs.Writing.{IsComponentLine, none}
use Rattle.bip_review.proofs.WritingLemmas.{lines_more}
use Rattle.bip_review.proofs.writing.write_components.Goals as goal

pub loop-number-init : goal.loop-number-init
loop-number-init c = none

pub loop-number-preserved : goal.loop-number-preserved
loop-number-preserved c =
    lines_more (IsComponentLine c.args.plan.now) c.args.text.now.items c.loop-number.number
    c.loop-number.text.items c.write_component.new.text.items c.loop-number.invariant
    c.in_ok-write_component.ensures
