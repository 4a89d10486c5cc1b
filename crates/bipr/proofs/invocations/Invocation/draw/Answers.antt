use Rattle.std.proofs.Common.{◌∙◌, refl, sym}
use Rattle.bip_answers.specs.Renderings.{IsDrawingShowing}
use Rattle.bipr.specs.Commands.{of_whole}
use Rattle.bipr.specs.Loading.{Silently}
use Rattle.bipr.proofs.EndingLemmas.{outcome_answered, outcomes_weaker}
use Rattle.bipr.proofs.LoadingLemmas.{quietly_said, text_lacking, text_said, text_stopped}
use Rattle.bipr.proofs.invocations.Invocation.draw.Goals as goal

pub returns-in_err-text-clause-says : goal.returns-in_err-text-clause-says
returns-in_err-text-clause-says g c =
    outcomes_weaker g.E.Stream.writes _ _ c.from_residual.result _ _
    (text_stopped g.E.Stream.writes _ c.from_residual.result _ _ _ _ c.from_residual.ensures.1
    c.in_err-text.ensures.unread)
    (λ told answer is.
    of_whole told answer (sym c.is_of_part.ensures ∙ c.if-is_of_part.false) is)

pub returns-in_err-answer_drawing-clause-says : goal.returns-in_err-answer_drawing-clause-says
returns-in_err-answer_drawing-clause-says g c =
    outcomes_weaker g.E.Stream.writes _ _ c.from_residual-in_err-answer_drawing.result _ _
    (text_lacking g.E.Stream.writes _ c.from_residual-in_err-answer_drawing.result _ _ _
    c.from_residual-in_err-answer_drawing.ensures.1)
    (λ told answer is.
    of_whole told answer (sym c.is_of_part.ensures ∙ c.if-is_of_part.false) is)

pub returns-clause-says : goal.returns-clause-says
returns-clause-says g c =
    let shows = IsDrawingShowing c.in_ok-text.text c.args.asked.now.with_plan in
    outcomes_weaker g.E.Stream.writes _ _ _ _ _
    (text_said g.E.Stream.writes _ _ _ _ _ c.in_ok-text.text
    (λ model. Silently (IsDrawingShowing model c.args.asked.now.with_plan)) c.in_ok-text.ensures.read
    (quietly_said g.E.Stream.writes _ _ _ shows refl
    (outcome_answered shows c.in_ok-answer_drawing.field-0
    (rw (← c.as_slice-text.ensures) c.in_ok-answer_drawing.ensures))))
    (λ told answer is.
    of_whole told answer (sym c.is_of_part.ensures ∙ c.if-is_of_part.false) is)
