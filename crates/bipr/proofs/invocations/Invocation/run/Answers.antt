use Rattle.std.proofs.Common.{◌∙◌, [], refl, sym}
use Rattle.bipr.specs.Commands.{IsThreadedRun, of_no_limits}
use Rattle.bipr.proofs.EndingLemmas.{outcome_answered, outcomes_quiet}
use Rattle.bipr.proofs.invocations.Invocation.run.Goals as goal

pub run_within-requires-clause-limits : goal.run_within-requires-clause-limits
run_within-requires-clause-limits g c = λ κs outlive. sym c.limits_of.ensures ∙ c.in-Some.is

pub returns-in-None-clause-says : goal.returns-in-None-clause-says
returns-in-None-clause-says g c =
    let gives = g.I.Inputs.gives c.args.self.now.inputs.now in
    let hosts = g.H.Hosting.hosts c.args.self.now.hosting.now in
    let is = IsThreadedRun gives hosts c.args.asked.now in
    outcomes_quiet g.E.Stream.writes _ _ _ is refl
    (outcome_answered (is []) _ (of_no_limits (sym c.limits_of.ensures ∙ c.in-None.is)))
