use Rattle.bipr.specs.Walked.{IsWalkAnswer, walk_lacking}
use Rattle.bipr.proofs.EndingLemmas.{outcome_answered, outcome_lacking}
use Rattle.bipr.proofs.walked.answer_walk.Goals as goal

pub returns-in_err-answer_walks : goal.returns-in_err-answer_walks
returns-in_err-answer_walks c =
    outcome_lacking c.from_residual.result (IsWalkAnswer c.args.plan.now c.args.asked.now c.args.walks)
    c.from_residual.ensures.1 (walk_lacking c.args.walks)

pub returns : goal.returns
returns c =
    outcome_answered (IsWalkAnswer c.args.plan.now c.args.asked.now c.args.walks) _ c.in_ok-answer_walks.ensures
