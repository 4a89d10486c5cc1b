use Rattle.std.proofs.Common.{length, ap, arith, below_more}
use Rattle.std.proofs.lemmas.Bool.{false≢true}
use Rattle.bip_model.specs.Steps.{IsLookedAt}
use Rattle.bip_partition.proofs.TouchLemmas.{looking_known}
use Rattle.bip_review.proofs.reasons.first_looking.Goals as goal

pub loop-number-preserved : goal.loop-number-preserved
loop-number-preserved c =
    below_more (λ k. ¬ IsLookedAt c.args.plan.now.model k c.args.comp.0) c.loop-number.number
    c.loop-number.invariant
    (λ looked. false≢true (c.if-is_looked_at.ensures.1 (rw c.model-in-loop-number.ensures looked)))

pub returns-clause-none : goal.returns-clause-none
returns-clause-none c = λ seen.
    let all = rw c.model.ensures at c.interactions-number-end.ensures.interactions in
    let known = looking_known c.args.plan.now.model seen.0 c.args.comp.0
    (rw c.model.ensures at c.interactions-number-end.ensures.valid) seen.1 in
    c.loop-number.invariant seen.0 (omega (arith, known, c.loop-number-test.false, ap length all))
    seen.1
