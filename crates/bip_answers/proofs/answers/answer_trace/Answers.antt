use Rattle.std.proofs.lemmas.Result.{IfOk-weaker}
use Rattle.bip_answers.proofs.AnswerLemmas.{said_answers}
use Rattle.bip_answers.proofs.answers.answer_trace.Goals as goal

pub returns : goal.returns
returns c =
    IfOk-weaker c.answer_replayed.result _ _
    (λ answer said.
    said_answers c.args.base c.args.model.now c.args.trace.now c.replay-replayed.result answer
    c.replay-replayed.ensures.run c.replay-replayed.ensures.fault said)
    c.answer_replayed.ensures.answered
