use Rattle.std.proofs.Common.{refl}
use Rattle.bipr.specs.Loading.{Silently}
use Rattle.bip_answers.specs.Renderings.{IsRenderingAnswer}
use Rattle.bip_answers.specs.declared.renderings.Rendering.TheVariants.{Canonical}
use Rattle.bipr.proofs.EndingLemmas.{outcome_answered}
use Rattle.bipr.proofs.LoadingLemmas.{quietly_said, text_lacking, text_said, text_stopped}
use Rattle.bipr.proofs.invocations.Invocation.canon.Goals as goal

pub returns-in_err-text-clause-says : goal.returns-in_err-text-clause-says
returns-in_err-text-clause-says g c =
    text_stopped g.E.Stream.writes _ c.from_residual.result _ _ _ _ c.from_residual.ensures.1
    c.in_err-text.ensures.unread

pub returns-in_err-answer_rendering-clause-says : goal.returns-in_err-answer_rendering-clause-says
returns-in_err-answer_rendering-clause-says g c =
    text_lacking g.E.Stream.writes _ c.from_residual-in_err-answer_rendering.result _ _ _
    c.from_residual-in_err-answer_rendering.ensures.1

pub returns-clause-says : goal.returns-clause-says
returns-clause-says g c =
    let shows = IsRenderingAnswer Canonical c.in_ok-text.text in
    text_said g.E.Stream.writes _ _ _ _ _ c.in_ok-text.text
    (λ model. Silently (IsRenderingAnswer Canonical model)) c.in_ok-text.ensures.read
    (quietly_said g.E.Stream.writes _ _ _ shows refl
    (outcome_answered shows c.in_ok-answer_rendering.field-0
    (rw (← c.as_slice-text.ensures) c.in_ok-answer_rendering.ensures)))
