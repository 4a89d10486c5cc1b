use Rattle.std.proofs.Common.{◌∙◌, [], refl, sym}
use Rattle.bipr.specs.Commands.{AreDrawnAndTold, IsSteps, of_both, of_no_rows, of_schedule}
use Rattle.bipr.specs.Commands.{of_stream}
use Rattle.bipr.proofs.EndingLemmas.{outcome_answered, outcomes_quiet, outcomes_weaker}
use Rattle.bipr.proofs.SequencedLemmas.{is_given, isnt_given}
use Rattle.bipr.proofs.invocations.Invocation.steps.Goals as goal
use Rattle.bipr.proofs.invocations.Invocation.steps.Goals.{else-is_some-via-else-is_some}
use Rattle.bipr.proofs.invocations.Invocation.steps.Goals.{else-is_some-via-then-is_some+else-asked}

pub returns-then-not-are_in_order-clause-says : goal.returns-then-not-are_in_order-clause-says
returns-then-not-are_in_order-clause-says g c =
    let gives = g.I.Inputs.gives c.args.self.now.inputs.now in
    let hosts = g.H.Hosting.hosts c.args.self.now.hosting.now in
    let is = IsSteps gives hosts c.args.asked.now in
    outcomes_quiet g.E.Stream.writes _ _ _ is refl
    (outcome_answered (is []) _
    (of_no_rows (c.are_in_order.ensures.no c.if-not-are_in_order.true)))

pub returns-then-asked-clause-says : goal.returns-then-asked-clause-says
returns-then-asked-clause-says g c =
    let gives = g.I.Inputs.gives c.args.self.now.inputs.now in
    let hosts = g.H.Hosting.hosts c.args.self.now.hosting.now in
    let is = IsSteps gives hosts c.args.asked.now in
    outcomes_quiet g.E.Stream.writes _ _ _ is refl
    (outcome_answered (is []) _
    (of_both (c.are_in_order.ensures.yes c.if-not-are_in_order.false) (
      is_given c.args.asked.now.chart_in (sym c.is_some.ensures ∙ c.if-is_some.true),
      c.if-asked.true,
    )))

pub returns-then-is_on_output-clause-says : goal.returns-then-is_on_output-clause-says
returns-then-is_on_output-clause-says g c =
    let gives = g.I.Inputs.gives c.args.self.now.inputs.now in
    let hosts = g.H.Hosting.hosts c.args.self.now.hosting.now in
    let is = IsSteps gives hosts c.args.asked.now in
    let apart : ¬ AreDrawnAndTold c.args.asked.now =
    elim c.else-is_some.branch [
      | else-is_some-via-then-is_some+else-asked w ↦ λ both.
          let told = both.1 in let silent = w.if-asked.false in cc
      | else-is_some-via-else-is_some w ↦ λ both.
          both.0 (isnt_given c.args.asked.now.chart_in (sym c.is_some.ensures ∙ w.if-is_some.false))
    ] in
    outcomes_quiet g.E.Stream.writes _ _ _ is refl
    (outcome_answered (is []) _
    (of_stream (c.are_in_order.ensures.yes c.if-not-are_in_order.false) apart
    (sym c.is_on_output.ensures ∙ c.if-is_on_output.true)))

pub returns-clause-says : goal.returns-clause-says
returns-clause-says g c =
    let apart : ¬ AreDrawnAndTold c.args.asked.now =
    elim c.else-is_some.branch [
      | else-is_some-via-then-is_some+else-asked w ↦ λ both.
          let told = both.1 in let silent = w.if-asked.false in cc
      | else-is_some-via-else-is_some w ↦ λ both.
          both.0 (isnt_given c.args.asked.now.chart_in (sym c.is_some.ensures ∙ w.if-is_some.false))
    ] in
    outcomes_weaker g.E.Stream.writes _ _ c.run_schedule.result _ _ c.run_schedule.ensures.says
    (λ told answer is.
    of_schedule told answer (c.are_in_order.ensures.yes c.if-not-are_in_order.false) apart
    (sym c.is_on_output.ensures ∙ c.if-is_on_output.false) is)
