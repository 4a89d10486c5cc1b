use Rattle.std.proofs.Common.{refl}
use Rattle.bipr.specs.Loading.{OfPlan, Silently}
use Rattle.bipr.specs.Walked.{IsWalkAnswer}
use Rattle.bipr.proofs.LoadingLemmas.{plan_refused, plan_said, quietly_said, text_lacking}
use Rattle.bipr.proofs.LoadingLemmas.{text_said, text_stopped}
use Rattle.bipr.proofs.invocations.Invocation.walk_so.Goals as goal

pub returns-in_err-text-clause-says : goal.returns-in_err-text-clause-says
returns-in_err-text-clause-says g c =
    text_stopped g.E.Stream.writes _ c.from_residual.result _ _ _ _ c.from_residual.ensures.1
    c.in_err-text.ensures.unread

pub returns-in_err-plan-clause-says : goal.returns-in_err-plan-clause-says
returns-in_err-plan-clause-says g c =
    text_lacking g.E.Stream.writes _ c.from_residual-in_err-plan.result _ _ _
    c.from_residual-in_err-plan.ensures.1

pub returns-in-Plan-clause-says : goal.returns-in-Plan-clause-says
returns-in-Plan-clause-says g c =
    text_said g.E.Stream.writes _ _ _ _ _ c.in_ok-text.text
    (λ model. OfPlan model (λ p. Silently (IsWalkAnswer p c.args.asked.now c.args.walks)))
    c.in_ok-text.ensures.read
    (plan_said g.E.Stream.writes _ _ _ _ _ c.in-Plan.plan
    (rw (← c.as_slice.ensures) (rw c.in-Plan.is at c.in_ok-plan.ensures))
    (quietly_said g.E.Stream.writes _ _ _ _ refl c.answer_walk.ensures))

pub returns-clause-says : goal.returns-clause-says
returns-clause-says g c =
    text_said g.E.Stream.writes _ _ _ _ _ c.in_ok-text.text
    (λ model. OfPlan model (λ p. Silently (IsWalkAnswer p c.args.asked.now c.args.walks)))
    c.in_ok-text.ensures.read
    (plan_refused g.E.Stream.writes _ _ _ c.in-Refusal.answer
    (rw (← c.as_slice.ensures) (rw c.in-Refusal.is at c.in_ok-plan.ensures)))
