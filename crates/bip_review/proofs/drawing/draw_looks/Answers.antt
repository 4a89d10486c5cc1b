use Rattle.std.proofs.Common.{arith}
use Rattle.std.proofs.lemmas.List.{take_all}
use Rattle.bip_review.proofs.DrawingLemmas.{looks_added}
use Rattle.bip_review.proofs.drawing.draw_looks.Goals as goal

pub returns : goal.returns
returns c =
    looks_added c.args.plan.now.model c.args.inter.0 c.above-above.result.now
    c.looks-seen.result.now c.args.text.now.items c.loop-comp.text.items
    (rw c.model.ensures at c.above-above.ensures.above) c.looks-seen.ensures
    (rw (take_all c.loop-comp.comp-index c.looks-seen.result.now (omega (
      arith,
      c.loop-comp-test.false,
    ))) at c.loop-comp.invariant)
