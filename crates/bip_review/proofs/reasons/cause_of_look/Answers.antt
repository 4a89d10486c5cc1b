use Rattle.bip_review.proofs.ReasonLemmas.{cause_of}
use Rattle.bip_review.proofs.reasons.cause_of_look.Goals as goal

pub returns-clause-some : goal.returns-clause-some
returns-clause-some c =
    (cause_of c.args.plan.now.model c.args.inter.0 c.args.comp.0 c.above.result.now
    c.first_moving.result (rw c.model-model.ensures at c.above.ensures.above)
    (rw c.model-model.ensures at c.first_moving.ensures)).0

pub returns-clause-none : goal.returns-clause-none
returns-clause-none c =
    (cause_of c.args.plan.now.model c.args.inter.0 c.args.comp.0 c.above.result.now
    c.first_moving.result (rw c.model-model.ensures at c.above.ensures.above)
    (rw c.model-model.ensures at c.first_moving.ensures)).1
