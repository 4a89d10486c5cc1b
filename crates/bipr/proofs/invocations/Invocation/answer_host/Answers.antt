use Rattle.bipr.specs.Hosted.{IsHostAnswer, text_lacking}
use Rattle.bipr.proofs.EndingLemmas.{outcome_answered, outcome_lacking}
use Rattle.bipr.proofs.HostedLemmas.{host_answered}
use Rattle.bipr.proofs.invocations.Invocation.answer_host.Goals as goal

pub returns-in_err-answer_hosted-clause-says : goal.returns-in_err-answer_hosted-clause-says
returns-in_err-answer_hosted-clause-says g c =
    outcome_lacking c.from_residual-in_err-answer_hosted.result
    (IsHostAnswer _ c.args.plan.now c.args.asked.now.with_stats)
    c.from_residual-in_err-answer_hosted.ensures.1
    (text_lacking c.in_ok-hosted.hosted c.in_ok-hosted.ensures.gives)

pub returns-clause-says : goal.returns-clause-says
returns-clause-says g c =
    outcome_answered (IsHostAnswer _ c.args.plan.now c.args.asked.now.with_stats)
    c.in_ok-answer_hosted.field-0
    (host_answered _ c.args.plan.now c.args.asked.now.with_stats c.in_ok-hosted.hosted
    c.in_ok-answer_hosted.field-0 c.in_ok-hosted.ensures.gives c.in_ok-answer_hosted.ensures.is
    c.in_ok-answer_hosted.ensures.run)
