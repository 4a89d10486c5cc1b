use Rattle.std.proofs.Common.{[], refl}
use Rattle.bip_answers.specs.Selected.{IsPartAnswer}
use Rattle.bipr.specs.Commands.{IsDraw, of_part, plan_of_part, words_of}
use Rattle.bipr.specs.Loading.{Silently}
use Rattle.bipr.proofs.EndingLemmas.{outcome_answered, outcomes_quiet, outcomes_weaker}
use Rattle.bipr.proofs.LoadingLemmas.{quietly_said, text_lacking, text_said, text_stopped}
use Rattle.bipr.proofs.invocations.Invocation.draw_part.Goals as goal

pub returns-then-asked-clause-says : goal.returns-then-asked-clause-says
returns-then-asked-clause-says g c =
    let is = IsDraw (g.I.Inputs.gives c.args.self.now.inputs.now) c.args.asked.now in
    outcomes_quiet g.E.Stream.writes _ _ _ is refl
    (outcome_answered (is []) _ (plan_of_part c.requires c.if-asked.true))

pub returns-in_err-text-clause-says : goal.returns-in_err-text-clause-says
returns-in_err-text-clause-says g c =
    outcomes_weaker g.E.Stream.writes _ _ c.from_residual.result _ _
    (text_stopped g.E.Stream.writes _ c.from_residual.result _ _ _ _ c.from_residual.ensures.1
    c.in_err-text.ensures.unread)
    (λ told answer is. of_part told answer c.requires c.if-asked.false is)

pub returns-in_err-answer_part-clause-says : goal.returns-in_err-answer_part-clause-says
returns-in_err-answer_part-clause-says g c =
    outcomes_weaker g.E.Stream.writes _ _ c.from_residual-in_err-answer_part.result _ _
    (text_lacking g.E.Stream.writes _ c.from_residual-in_err-answer_part.result _ _ _
    c.from_residual-in_err-answer_part.ensures.1)
    (λ told answer is. of_part told answer c.requires c.if-asked.false is)

pub returns-clause-says : goal.returns-clause-says
returns-clause-says g c =
    let asked = c.args.asked.now in
    let shows = IsPartAnswer (words_of asked.only) (words_of asked.only_class) c.in_ok-text.text in
    outcomes_weaker g.E.Stream.writes _ _ _ _ _
    (text_said g.E.Stream.writes _ _ _ _ _ c.in_ok-text.text
    (λ model. Silently (IsPartAnswer (words_of asked.only) (words_of asked.only_class) model))
    c.in_ok-text.ensures.read
    (quietly_said g.E.Stream.writes _ _ _ shows refl
    (outcome_answered shows c.in_ok-answer_part.field-0
    (rw (← c.as_slice.ensures, ← c.words_of-components.ensures, ← c.words_of-classes.ensures)
    c.in_ok-answer_part.ensures))))
    (λ told answer is. of_part told answer c.requires c.if-asked.false is)
