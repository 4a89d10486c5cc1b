use Rattle.bip_partition.specs.Plans.{Planned}
use Rattle.std.proofs.Common.{subst, sym}
use Rattle.bip_answers.specs.Answers.{HasPlan}
use Rattle.bip_answers.proofs.AnswerLemmas.{is_refused-no_plan}
use Rattle.bip_answers.proofs.answers.plan_model.Goals as goal

pub returns-in-Some : goal.returns-in-Some
returns-in-Some c = λ text means.
    is_refused-no_plan text _ c.args.model c.args.classes c.in-Some.inter.0
    c.in_ok-refused.ensures means c.in-Some.ensures.some

pub unreachable-requires : goal.unreachable-requires
unreachable-requires c =
    let lowest = rw c.in-Err-TooManyTouched.field-0-is at c.in-Err-TooManyTouched.ensures.fault in
    c.in_default.ensures.none _ lowest.many

pub returns-in-Ok : goal.returns-in-Ok
returns-in-Ok c = λ text means.
    subst (λ (p : Planned). HasPlan text p) (sym c.in-Ok.ensures.plan)
    (record { means = means; few = c.in-Ok.ensures.few })
