use Rattle.std.proofs.Common.{subst, sym}
use Rattle.std.proofs.lemmas.Result.{IfOk-weaker}
use Rattle.bip_answers.specs.Views.{IsViewed}
use Rattle.bip_answers.proofs.views.View.answer_trace.Goals as goal

pub returns-in-Verdict : goal.returns-in-Verdict
returns-in-Verdict c =
    IfOk-weaker c.answer_trace.result _ _
    (λ answer is text means.
    subst (λ view. IsViewed view c.args.base text c.args.trace.now answer) (sym c.in-Verdict.is)
    (is text c.args.classes.now means))
    c.answer_trace.ensures

pub returns-in-End : goal.returns-in-End
returns-in-End c =
    IfOk-weaker c.answer_ended.result _ _
    (λ answer is text means.
    subst (λ view. IsViewed view c.args.base text c.args.trace.now answer) (sym c.in-End.is)
    (is text c.args.classes.now means))
    c.answer_ended.ensures
