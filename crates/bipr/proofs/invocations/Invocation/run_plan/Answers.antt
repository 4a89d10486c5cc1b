use Rattle.std.proofs.Common.{inl, rules}
use Rattle.bipr.specs.Hosted.{FitsPlan, IsPlanHosted, of_host, of_many_rows}
use Rattle.bipr.proofs.EndingLemmas.{outcome_answered}
use Rattle.bipr.proofs.invocations.Invocation.run_plan.Goals as goal

pub returns-then-not-can_have-clause-says : goal.returns-then-not-can_have-clause-says
returns-then-not-can_have-clause-says g c =
    let hosts = g.H.Hosting.hosts c.args.self.now.hosting.now in
    let misfit : FitsPlan c.args.plan.now c.args.asked.now.form → ⊥ = search rules in
    outcome_answered (IsPlanHosted c.args.plan.now hosts c.args.asked.now c.args.limits) _ (of_many_rows misfit)

pub returns-in-None-clause-says : goal.returns-in-None-clause-says
returns-in-None-clause-says g c =
    let fits : FitsPlan c.args.plan.now c.args.asked.now.form = search rules in
    λ answer said. of_host answer fits (inl c.in-None.is) (c.answer_host.ensures.says answer said)

pub returns-in-Some-clause-says : goal.returns-in-Some-clause-says
returns-in-Some-clause-says g c = c.answer_recorded.ensures.says
