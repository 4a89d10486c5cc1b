use Rattle.std.proofs.Common.{[], refl, rules, sym, ◌∙◌}
use Rattle.bipr.specs.Commands.{IsThreadedRun, of_bank, of_no_bank, of_output}
use Rattle.bipr.specs.Hosted.{IsPlanHosted}
use Rattle.bipr.specs.Loading.{OfPlan, Silently}
use Rattle.bipr.specs.Resolvers.{NeedsCentral}
use Rattle.bipr.proofs.EndingLemmas.{outcome_answered, outcomes_quiet, outcomes_weaker}
use Rattle.bipr.proofs.HostedLemmas.{needs_none}
use Rattle.bipr.proofs.LoadingLemmas.{plan_refused, plan_said, quietly_said, text_lacking}
use Rattle.bipr.proofs.LoadingLemmas.{text_said}
use Rattle.bipr.proofs.LoadingLemmas.{text_stopped}
use Rattle.bipr.proofs.invocations.Invocation.run_within.Goals as goal

pub returns-then-needs_central-clause-says : goal.returns-then-needs_central-clause-says
returns-then-needs_central-clause-says g c =
    let gives = g.I.Inputs.gives c.args.self.now.inputs.now in
    let hosts = g.H.Hosting.hosts c.args.self.now.hosting.now in
    let needs : NeedsCentral c.args.asked.now.form = search rules in
    outcomes_quiet g.E.Stream.writes _ _ _ (IsThreadedRun gives hosts c.args.asked.now) refl
    (outcome_answered (IsThreadedRun gives hosts c.args.asked.now []) _
    (of_no_bank c.args.limits c.requires.limits needs))

pub returns-then-is_on_output-clause-says : goal.returns-then-is_on_output-clause-says
returns-then-is_on_output-clause-says g c =
    let gives = g.I.Inputs.gives c.args.self.now.inputs.now in
    let hosts = g.H.Hosting.hosts c.args.self.now.hosting.now in
    let fits = needs_none _ _ c.needs_central.ensures c.if-needs_central.false in
    let output = sym c.is_on_output.ensures ∙ c.if-is_on_output.true in
    outcomes_quiet g.E.Stream.writes _ _ _ (IsThreadedRun gives hosts c.args.asked.now) refl
    (outcome_answered (IsThreadedRun gives hosts c.args.asked.now []) _
    (of_output c.args.limits c.requires.limits fits output))

pub returns-in_err-text-clause-says : goal.returns-in_err-text-clause-says
returns-in_err-text-clause-says g c =
    let fits = needs_none _ _ c.needs_central.ensures c.if-needs_central.false in
    let file = sym c.is_on_output.ensures ∙ c.if-is_on_output.false in
    outcomes_weaker g.E.Stream.writes _ _ c.from_residual.result _ _
    (text_stopped g.E.Stream.writes _ c.from_residual.result _ _ _ _ c.from_residual.ensures.1
    c.in_err-text.ensures.unread)
    (λ told answer is. of_bank c.args.limits told answer c.requires.limits fits file is)

pub returns-in_err-plan-clause-says : goal.returns-in_err-plan-clause-says
returns-in_err-plan-clause-says g c =
    let fits = needs_none _ _ c.needs_central.ensures c.if-needs_central.false in
    let file = sym c.is_on_output.ensures ∙ c.if-is_on_output.false in
    outcomes_weaker g.E.Stream.writes _ _ c.from_residual-in_err-plan.result _ _
    (text_lacking g.E.Stream.writes _ c.from_residual-in_err-plan.result _ _ _
    c.from_residual-in_err-plan.ensures.1)
    (λ told answer is. of_bank c.args.limits told answer c.requires.limits fits file is)

pub returns-in-Plan-clause-says : goal.returns-in-Plan-clause-says
returns-in-Plan-clause-says g c =
    let hosts = g.H.Hosting.hosts c.args.self.now.hosting.now in
    let fits = needs_none _ _ c.needs_central.ensures c.if-needs_central.false in
    let file = sym c.is_on_output.ensures ∙ c.if-is_on_output.false in
    outcomes_weaker g.E.Stream.writes _ _ c.run_plan.result _ _
    (text_said g.E.Stream.writes _ _ _ _ _ c.in_ok-text.text
    (λ model. OfPlan model (λ p. Silently (IsPlanHosted p hosts c.args.asked.now c.args.limits)))
    c.in_ok-text.ensures.read
    (plan_said g.E.Stream.writes _ _ _ _ _ c.in-Plan.plan
    (rw (← c.as_slice.ensures) (rw c.in-Plan.is at c.in_ok-plan.ensures))
    (quietly_said g.E.Stream.writes _ _ _ _ c.run_plan.ensures.errors c.run_plan.ensures.says)))
    (λ told answer is. of_bank c.args.limits told answer c.requires.limits fits file is)

pub returns-clause-says : goal.returns-clause-says
returns-clause-says g c =
    let hosts = g.H.Hosting.hosts c.args.self.now.hosting.now in
    let fits = needs_none _ _ c.needs_central.ensures c.if-needs_central.false in
    let file = sym c.is_on_output.ensures ∙ c.if-is_on_output.false in
    outcomes_weaker g.E.Stream.writes _ _ _ _ _
    (text_said g.E.Stream.writes _ _ _ _ _ c.in_ok-text.text
    (λ model. OfPlan model (λ p. Silently (IsPlanHosted p hosts c.args.asked.now c.args.limits)))
    c.in_ok-text.ensures.read
    (plan_refused g.E.Stream.writes _ _ _ c.in-Refusal.answer
    (rw (← c.as_slice.ensures) (rw c.in-Refusal.is at c.in_ok-plan.ensures))))
    (λ told answer is. of_bank c.args.limits told answer c.requires.limits fits file is)
