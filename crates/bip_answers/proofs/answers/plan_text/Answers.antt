use Rattle.bip_answers.proofs.AnswerLemmas.{is_refused-no_text}
use Rattle.bip_answers.proofs.answers.plan_text.Goals as goal

pub returns-in_ok-answer_fault-in-Err : goal.returns-in_ok-answer_fault-in-Err
returns-in_ok-answer_fault-in-Err c =
    let is = c.in_ok-answer_fault-in-Err.ensures.answered in
    is_refused-no_text c.args.text.now _ c.in-Err.fault is.0 is.1 (c.in-Err.ensures.fault is.0)
