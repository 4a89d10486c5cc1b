use Rattle.std.proofs.Common.{subst, sym}
use Rattle.std.proofs.lemmas.Result.{IfOk-weaker}
use Rattle.bip_answers.specs.Answers.{IsCheckShowing, plain}
use Rattle.bip_answers.proofs.answers.answer_plan.Goals as goal

pub returns-else-with_plan : goal.returns-else-with_plan
returns-else-with_plan c =
    IfOk-weaker c.answer_counts.result _ _
    (λ answer is text has. subst (λ b. IsCheckShowing text b answer) (sym c.if-with_plan.false)
    (plain answer (is text has)))
    c.answer_counts.ensures
