use Rattle.std.proofs.Common.{◌∙◌, ap, subst, sym}
use Rattle.std.proofs.lemmas.Result.{IfOk-weaker}
use Rattle.bip_answers.specs.Answers.{saying}
use Rattle.bip_answers.specs.Renderings.{IsRenderingAnswer, rendered, unrendered}
use Rattle.bip_answers.specs.declared.answers.Status.TheVariants.{Done}
use Rattle.bip_answers.proofs.renderings.answer_rendering.Goals as goal

pub returns-in-Err : goal.returns-in-Err
returns-in-Err c =
    IfOk-weaker c.answer_fault.result _ _
    (λ answer is. subst (IsRenderingAnswer c.args.rendering c.args.model.now) (sym is.1)
    (unrendered c.in-Err.fault is.0 (c.in-Err.ensures.fault is.0)))
    c.answer_fault.ensures.answered

pub returns : goal.returns
returns c =
    subst (IsRenderingAnswer c.args.rendering c.args.model.now)
    (sym (c.said.ensures ∙ ap (saying Done) c.in_ok-text.ensures))
    (rendered c.in-Ok.read.0 c.in-Ok.read.1 c.in-Ok.ensures.model)
