use Rattle.std.proofs.Common.{length, ap, arith}
use Rattle.bip_partition.proofs.TouchLemmas.{touched_known}
use Rattle.bip_review.proofs.reasons.first_beside.Goals as goal

pub returns-clause-none : goal.returns-clause-none
returns-clause-none c = λ joins.
    let all = rw c.model.ensures at c.components-number-end.ensures.components in
    let known = touched_known c.args.plan.now.model c.args.inter.0 joins.0
    (rw c.model.ensures at c.components-number-end.ensures.valid) joins.1.beside in
    c.loop-number.invariant joins.0 (omega (arith, known, c.loop-number-test.false, ap length all))
    joins.1
