use Rattle.std.proofs.Common.{length, ap, arith, below_more}
use Rattle.bip_partition.proofs.TouchLemmas.{touches_known}
use Rattle.bip_review.specs.Reasons.{Joins}
use Rattle.bip_review.proofs.reasons.first_joining.Goals as goal

pub loop-number-preserved : goal.loop-number-preserved
loop-number-preserved c =
    below_more (λ k. ¬ Joins c.args.plan.now c.args.comp.0 k) c.loop-number.number
    c.loop-number.invariant c.in_default.ensures.none

pub returns-clause-none : goal.returns-clause-none
returns-clause-none c = λ a joins.
    let all = rw c.model.ensures at c.interactions-number-end.ensures.interactions in
    let known = touches_known c.args.plan.now.model a c.args.comp.0
    (rw c.model.ensures at c.interactions-number-end.ensures.valid) joins.1.touched in
    c.loop-number.invariant a (omega (arith, known, c.loop-number-test.false, ap length all)) joins
