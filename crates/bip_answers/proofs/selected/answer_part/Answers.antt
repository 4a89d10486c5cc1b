use Rattle.std.proofs.Common.{subst, sym}
use Rattle.std.proofs.lemmas.Result.{IfOk-weaker}
use Rattle.bip_answers.specs.Selected.{IsPartAnswer, undrawn}
use Rattle.bip_answers.proofs.selected.answer_part.Goals as goal

pub returns-in-Err : goal.returns-in-Err
returns-in-Err c =
    IfOk-weaker c.answer_fault.result _ _
    (λ answer is.
    subst (IsPartAnswer c.args.components.now c.args.classes.now c.args.model.now) (sym is.1)
    (undrawn c.in-Err.fault is.0 (c.in-Err.ensures.fault is.0)))
    c.answer_fault.ensures.answered

pub returns : goal.returns
returns c =
    IfOk-weaker c.answer_selected-answer.result _ _
    (λ answer is. is c.args.model.now c.in-Ok.ensures.model) c.answer_selected-answer.ensures
