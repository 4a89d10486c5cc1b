use Rattle.std.proofs.Common.{Err, subst, sym}
use Rattle.std.proofs.lemmas.Result.{IfOk-weaker}
use Rattle.bip_replay.specs.Runs.{standing_of}
use Rattle.bip_answers.specs.Ended.{IsEndAnswer, ended, unended}
use Rattle.bip_answers.proofs.AnswerLemmas.{said_answers, said_undone}
use Rattle.bip_answers.proofs.ended.answer_ended.Goals as goal

pub returns-in_ok-text-in-Ok : goal.returns-in_ok-text-in-Ok
returns-in_ok-text-in-Ok c = λ text classes means.
    subst (IsEndAnswer c.args.base text c.args.trace.now) (sym c.said.ensures)
    (ended c.args.model.now classes c.in-Ok.count (standing_of c.in-Ok.position)
    c.in_ok-text-in-Ok.text.items means c.in-Ok.ensures.run c.in_ok-text-in-Ok.ensures)

pub returns-in-Err : goal.returns-in-Err
returns-in-Err c =
    IfOk-weaker c.answer_replayed.result _ _
    (λ answer said text classes means. unended answer
    (said_answers c.args.base c.args.model.now c.args.trace.now (Err c.in-Err.fault) answer tt
    c.in-Err.ensures.fault said text classes means)
    (said_undone c.args.model.now c.args.trace.now c.in-Err.fault answer said))
    c.answer_replayed.ensures.answered
