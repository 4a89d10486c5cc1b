use Rattle.std.proofs.Common.{length, ap, arith}
use Rattle.bip_partition.proofs.TouchLemmas.{touched_known}
use Rattle.bip_review.proofs.reasons.reserving.Goals as goal

pub returns-clause-none : goal.returns-clause-none
returns-clause-none c = λ is.
    let all = rw c.model.ensures at c.components-number-end.ensures.components in
    let known = touched_known c.args.plan.now.model c.args.inter.0 is.comp
    (rw c.model.ensures at c.components-number-end.ensures.valid) is.touched in
    c.loop-number.invariant is.comp (omega (arith, known, c.loop-number-test.false, ap length all))
    (record { touched = is.touched; tabled = is.tabled })
