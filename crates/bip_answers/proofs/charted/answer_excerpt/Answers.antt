use Rattle.std.proofs.Common.{◌∙◌, ap}
use Rattle.std.proofs.lemmas.Result.{IfOk-weaker}
use Rattle.bip_answers.specs.Charted.{no_picture}
use Rattle.bip_answers.specs.declared.answers.Answer.{Answer}
use Rattle.bip_answers.proofs.AnswerLemmas.{said_answers}
use Rattle.bip_answers.proofs.ChartLemmas.{answered_stopped, answered_whole}
use Rattle.bip_answers.proofs.ChartLemmas.{fault_followed, has_followed, run_followed}
use Rattle.bip_answers.proofs.charted.answer_excerpt.Goals as goal

pub follow-requires : goal.follow-requires
follow-requires c = (c.args.base, c.in_ok-chart.ensures.drawn)

pub answer_replayed-requires-clause-run : goal.answer_replayed-requires-clause-run
answer_replayed-requires-clause-run c =
    let is =
    has_followed _ _ _ c.args.base _ _ _ _ c.in_ok-chart.ensures.on c.in_ok-replayed.ensures.on
    (c.in_ok-replayed.ensures.drawn c.args.base c.in_ok-chart.ensures.drawn) in
    run_followed _ _ _ _ _ _ _ is

pub answer_replayed-requires-clause-fault : goal.answer_replayed-requires-clause-fault
answer_replayed-requires-clause-fault c =
    let is =
    has_followed _ _ _ c.args.base _ _ _ _ c.in_ok-chart.ensures.on c.in_ok-replayed.ensures.on
    (c.in_ok-replayed.ensures.drawn c.args.base c.in_ok-chart.ensures.drawn) in
    fault_followed _ _ _ _ _ _ _ is

pub answer_begun-requires-clause-shows : goal.answer_begun-requires-clause-shows
answer_begun-requires-clause-shows c =
    c.in_ok-replayed.ensures.on.shows ∙ c.in_ok-chart.ensures.on.shows

pub answer_begun-requires-in-NotARun-clause-shows : goal.answer_begun-requires-in-NotARun-clause-shows
answer_begun-requires-in-NotARun-clause-shows c =
    c.in_ok-replayed.ensures.on.shows ∙ c.in_ok-chart.ensures.on.shows

pub returns-in-Ok : goal.returns-in-Ok
returns-in-Ok c =
    let is =
    has_followed _ _ _ c.args.base _ _ _ _ c.in_ok-chart.ensures.on c.in_ok-replayed.ensures.on
    (c.in_ok-replayed.ensures.drawn c.args.base c.in_ok-chart.ensures.drawn) in
    IfOk-weaker c.answer_begun.result _ _
    (λ answer shows text means.
    answered_whole _ _ _ _ _ _ _ is c.in_ok-verdict.verdict answer text shows _ c.in-Ok.is c.in_ok-verdict.ensures.answered) c.answer_begun.ensures

pub returns-in-NotARun : goal.returns-in-NotARun
returns-in-NotARun c =
    let is =
    has_followed _ _ _ c.args.base _ _ _ _ c.in_ok-chart.ensures.on c.in_ok-replayed.ensures.on
    (c.in_ok-replayed.ensures.drawn c.args.base c.in_ok-chart.ensures.drawn) in
    IfOk-weaker c.answer_begun-in-NotARun.result _ _
    (λ answer shows text means.
    answered_stopped _ _ _ _ _ _ _ is c.in_ok-verdict.verdict answer text shows _ _ (rw c.in-NotARun.is at c.in-Err.is) c.in_ok-verdict.ensures.answered)
    c.answer_begun-in-NotARun.ensures

pub returns-in-Syntax : goal.returns-in-Syntax
returns-in-Syntax c = λ text means.
    let is =
    has_followed _ _ _ c.args.base _ _ _ _ c.in_ok-chart.ensures.on c.in_ok-replayed.ensures.on
    (c.in_ok-replayed.ensures.drawn c.args.base c.in_ok-chart.ensures.drawn) in
    let said = rw (c.in-Err.is, c.in-Syntax.is) at c.in_ok-verdict.ensures.answered in
    no_picture c.in_ok-verdict.verdict
    (said_answers c.args.base c.args.model.now c.args.trace.now c.in_ok-replayed.replayed
    c.in_ok-verdict.verdict (run_followed _ _ _ _ _ _ _ is) (fault_followed _ _ _ _ _ _ _ is)
    c.in_ok-verdict.ensures.answered text c.args.classes.now means)
    (ap (λ (a : Answer). a.status) said)

pub returns-in-Unknown : goal.returns-in-Unknown
returns-in-Unknown c = λ text means.
    let is =
    has_followed _ _ _ c.args.base _ _ _ _ c.in_ok-chart.ensures.on c.in_ok-replayed.ensures.on
    (c.in_ok-replayed.ensures.drawn c.args.base c.in_ok-chart.ensures.drawn) in
    let said = rw (c.in-Err.is, c.in-Unknown.is) at c.in_ok-verdict.ensures.answered in
    no_picture c.in_ok-verdict.verdict
    (said_answers c.args.base c.args.model.now c.args.trace.now c.in_ok-replayed.replayed
    c.in_ok-verdict.verdict (run_followed _ _ _ _ _ _ _ is) (fault_followed _ _ _ _ _ _ _ is)
    c.in_ok-verdict.ensures.answered text c.args.classes.now means)
    (ap (λ (a : Answer). a.status) said)
