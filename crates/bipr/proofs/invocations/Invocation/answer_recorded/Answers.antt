use Rattle.std.proofs.Common.{inr}
use Rattle.bipr.specs.Hosted.{IsPlanHosted, of_host, of_no_file, of_record, record_lacking}
use Rattle.bipr.proofs.EndingLemmas.{outcome_answered, outcome_lacking}
use Rattle.bipr.proofs.HostedLemmas.{host_stop_ends, host_stop_said}
use Rattle.bipr.proofs.RecordedLemmas.{some_not_none}
use Rattle.bipr.proofs.invocations.Invocation.answer_recorded.Goals as goal

pub returns-in_default-clause-says : goal.returns-in_default-clause-says
returns-in_default-clause-says g c =
    let hosts = g.H.Hosting.hosts c.args.self.now.hosting.now in
    let unmade = rw c.in_default.is at c.make.ensures in
    outcome_answered (IsPlanHosted c.args.plan.now hosts c.args.asked.now c.args.limits) _
    (of_no_file c.args.path c.requires.form c.requires.path unmade)

pub returns-in-Err-clause-says : goal.returns-in-Err-clause-says
returns-in-Err-clause-says g c =
    let hosts = g.H.Hosting.hosts c.args.self.now.hosting.now in
    let stopped = c.in-Err.ensures.stopped in
    host_stop_said (IsPlanHosted c.args.plan.now hosts c.args.asked.now c.args.limits) c.in-Err.why
    stopped.1
    (of_host _ c.requires.form (inr (host_stop_ends c.in-Err.why stopped.1)) stopped.0)

pub returns-in_err-plain-clause-says : goal.returns-in_err-plain-clause-says
returns-in_err-plain-clause-says g c =
    let hosts = g.H.Hosting.hosts c.args.self.now.hosting.now in
    let some = some_not_none c.args.asked.now.record_in c.args.path c.requires.path in
    outcome_lacking c.from_residual.result
    (IsPlanHosted c.args.plan.now hosts c.args.asked.now c.args.limits) c.from_residual.ensures.1
    (record_lacking c.requires.form some)

pub returns-in_err-answer-clause-says : goal.returns-in_err-answer-clause-says
returns-in_err-answer-clause-says g c =
    let hosts = g.H.Hosting.hosts c.args.self.now.hosting.now in
    let some = some_not_none c.args.asked.now.record_in c.args.path c.requires.path in
    outcome_lacking c.from_residual-in_err-answer.result
    (IsPlanHosted c.args.plan.now hosts c.args.asked.now c.args.limits)
    c.from_residual-in_err-answer.ensures.1 (record_lacking c.requires.form some)

pub returns-clause-says : goal.returns-clause-says
returns-clause-says g c =
    let hosts = g.H.Hosting.hosts c.args.self.now.hosting.now in
    let is = c.in_ok-plain.ensures.is in
    let run = rw is at c.in_ok-plain.ensures.run in
    let recorded = rw is at c.in_ok-answer.ensures in
    outcome_answered (IsPlanHosted c.args.plan.now hosts c.args.asked.now c.args.limits)
    c.in_ok-answer.answer
    (of_record c.in-Ok.hosted c.in_ok-answer.answer c.args.path c.requires.form c.requires.path
    c.in-Ok.ensures.gives run recorded)
