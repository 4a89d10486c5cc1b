use Rattle.bip_answers.specs.Renderings.{of_plan, planless}
use Rattle.bip_answers.proofs.renderings.answer_plan_drawing.Goals as goal

pub returns-in_ok-drawing-in-Plan : goal.returns-in_ok-drawing-in-Plan
returns-in_ok-drawing-in-Plan c =
    rw c.said.ensures
    (of_plan c.in-Plan.plan _ (rw c.in-Plan.is at c.in_ok-plan.ensures)
    c.in_ok-drawing-in-Plan.ensures)

pub returns-in-Refusal : goal.returns-in-Refusal
returns-in-Refusal c = planless c.in-Refusal.answer (rw c.in-Refusal.is at c.in_ok-plan.ensures)
