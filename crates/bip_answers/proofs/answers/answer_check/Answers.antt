use Rattle.std.proofs.lemmas.Result.{IfOk-weaker}
use Rattle.bip_answers.proofs.AnswerLemmas.{refused_check}
use Rattle.bip_answers.proofs.answers.answer_check.Goals as goal

pub returns-in-Plan : goal.returns-in-Plan
returns-in-Plan c =
    let has = rw c.in-Plan.is at c.in_ok-given.ensures in
    IfOk-weaker c.answer_plan.result _ _ (λ answer is. is c.args.model.now has)
    c.answer_plan.ensures

pub returns-in-Refusal : goal.returns-in-Refusal
returns-in-Refusal c =
    refused_check c.args.model.now c.args.with_plan _ (rw c.in-Refusal.is at c.in_ok-given.ensures)
