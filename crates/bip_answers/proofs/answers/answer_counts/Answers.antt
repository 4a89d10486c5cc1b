use Rattle.bip_answers.proofs.AnswerLemmas.{has_answered-planned}
use Rattle.bip_answers.proofs.answers.answer_counts.Goals as goal

pub returns : goal.returns
returns c =
    λ text has. has_answered-planned text _ _ c.args.plan.now c.count_plan.result c.said.ensures
    c.in_ok-text.ensures has c.count_plan.ensures
