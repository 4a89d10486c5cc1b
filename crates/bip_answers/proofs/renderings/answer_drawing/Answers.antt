use Rattle.std.proofs.lemmas.Result.{IfOk-weaker}
use Rattle.bip_answers.specs.Renderings.{of_model}
use Rattle.bip_answers.proofs.renderings.answer_drawing.Goals as goal

pub returns-else-with_plan : goal.returns-else-with_plan
returns-else-with_plan c =
    rw c.if-with_plan.false
    (IfOk-weaker c.answer_rendering.result _ _ (λ answer is. of_model answer is)
    c.answer_rendering.ensures)
