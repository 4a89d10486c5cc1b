use Rattle.std.proofs.Common.{[], refl}
use Rattle.bip_answers.specs.Answers.{IsRefusedModel}
use Rattle.bipr.specs.Loading.{IsPlannedText, OfPlan, OfTexts, bytes_in, lacking, of_no_plan}
use Rattle.bipr.specs.Loading.{of_plan}
use Rattle.bipr.specs.Sequenced.{IsScheduleShown}
use Rattle.bipr.proofs.EndingLemmas.{lacks_quietly, outcome_answered, outcome_stopped}
use Rattle.bipr.proofs.EndingLemmas.{outcomes_quiet}
use Rattle.bipr.proofs.EndingLemmas.{outcomes_weaker}
use Rattle.bipr.proofs.LoadingLemmas.{both_said, first_refused, first_stopped, other_stopped}
use Rattle.bipr.proofs.invocations.Invocation.run_schedule.Goals as goal

pub returns-in_err-text-clause-says : goal.returns-in_err-text-clause-says
returns-in_err-text-clause-says g c =
    let hosts = g.H.Hosting.hosts c.args.self.now.hosting.now in
    let is = OfTexts IsPlannedText IsRefusedModel
    (λ model schedule. OfPlan model (λ p. IsScheduleShown p hosts c.args.asked.now schedule))
    (g.I.Inputs.gives c.args.self.now.inputs.now) c.args.asked.now.model.now
    c.args.asked.now.schedule.now in
    outcomes_quiet g.E.Stream.writes _ _ c.from_residual.result is refl
    (outcome_stopped c.from_residual.result (is []) c.in_err-text.field-0.0
    c.from_residual.ensures.1 (first_stopped _ _ _ _ _ _ _ c.in_err-text.ensures.unread) lacking)

pub returns-in_err-plan-clause-says : goal.returns-in_err-plan-clause-says
returns-in_err-plan-clause-says g c =
    lacks_quietly g.E.Stream.writes _ c.from_residual-in_err-plan.result _
    c.from_residual-in_err-plan.ensures.1 lacking

pub returns-in-Refusal-clause-says : goal.returns-in-Refusal-clause-says
returns-in-Refusal-clause-says g c =
    let hosts = g.H.Hosting.hosts c.args.self.now.hosting.now in
    let is = OfTexts IsPlannedText IsRefusedModel
    (λ model schedule. OfPlan model (λ p. IsScheduleShown p hosts c.args.asked.now schedule))
    (g.I.Inputs.gives c.args.self.now.inputs.now) c.args.asked.now.model.now
    c.args.asked.now.schedule.now in
    outcomes_quiet g.E.Stream.writes _ _ _ is refl
    (outcome_answered (is []) c.in-Refusal.answer
    (first_refused (g.I.Inputs.gives c.args.self.now.inputs.now) IsPlannedText IsRefusedModel
    (λ model schedule. OfPlan model (λ p. IsScheduleShown p hosts c.args.asked.now schedule))
    c.args.asked.now.model.now c.args.asked.now.schedule.now
    c.in_ok-text.text c.parts.result.0.now c.parts.result.1 c.in-Refusal.answer
    c.in_ok-text.ensures.read
    (rw (← c.as_slice.ensures) c.parts.ensures) (rw c.in-Refusal.is at c.in_ok-plan.ensures)
    (λ rest refused. of_no_plan _ refused)))

pub returns-in_err-schedule-clause-says : goal.returns-in_err-schedule-clause-says
returns-in_err-schedule-clause-says g c =
    let hosts = g.H.Hosting.hosts c.args.self.now.hosting.now in
    let is = OfTexts IsPlannedText IsRefusedModel
    (λ model schedule. OfPlan model (λ p. IsScheduleShown p hosts c.args.asked.now schedule))
    (g.I.Inputs.gives c.args.self.now.inputs.now) c.args.asked.now.model.now
    c.args.asked.now.schedule.now in
    let has = rw c.in-Plan.is at c.in_ok-plan.ensures in
    outcomes_quiet g.E.Stream.writes _ _ c.from_residual-in_err-schedule.result is refl
    (outcome_stopped c.from_residual-in_err-schedule.result (is []) c.in_err-schedule.field-0.0
    c.from_residual-in_err-schedule.ensures.1
    (other_stopped _ _ _ _ _ _ _ _ _ _ c.in_ok-text.ensures.read
    (rw (← c.as_slice.ensures) c.parts.ensures) (_, has) c.in_err-schedule.ensures.unread) lacking)

pub returns-clause-says : goal.returns-clause-says
returns-clause-says g c =
    let hosts = g.H.Hosting.hosts c.args.self.now.hosting.now in
    let has = rw c.in-Plan.is at c.in_ok-plan.ensures in
    outcomes_weaker g.E.Stream.writes _ _ c.show_schedule.result _ _ c.show_schedule.ensures.says
    (λ told answer is.
    both_said (g.I.Inputs.gives c.args.self.now.inputs.now) IsPlannedText IsRefusedModel
    (λ model schedule. OfPlan model (λ p. IsScheduleShown p hosts c.args.asked.now schedule))
    c.args.asked.now.model.now c.args.asked.now.schedule.now
    c.in_ok-text.text c.parts.result.0.now c.parts.result.1 (bytes_in c.in_ok-schedule.schedule)
    told answer c.in_ok-text.ensures.read
    (rw (← c.as_slice.ensures) c.parts.ensures) (_, has) c.in_ok-schedule.ensures.read
    (of_plan _ told answer has (rw (← c.as_slice-2.ensures) is)))
