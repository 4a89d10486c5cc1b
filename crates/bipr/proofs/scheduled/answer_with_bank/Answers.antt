use Rattle.std.proofs.Common.{[]}
use Rattle.bipr.specs.Scheduled.{IsScheduleOf}
use Rattle.bipr.specs.Scheduled.{lacking, quietly}
use Rattle.bipr.specs.Streams.{none_put}
use Rattle.bipr.proofs.EndingLemmas.{lacks_quietly, outcome_answered}
use Rattle.bipr.proofs.scheduled.answer_with_bank.Goals as goal

pub returns-in_err-answer_events : goal.returns-in_err-answer_events
returns-in_err-answer_events g c =
    lacks_quietly _ _ c.from_residual.result _ c.from_residual.ensures.1 lacking

pub returns-in_ok-answer_events : goal.returns-in_ok-answer_events
returns-in_ok-answer_events g c =
    let asked = c.args.asked.now in
    record {
      told = [];
      on_the_way = none_put;
      outcomes =
          outcome_answered (IsScheduleOf c.args.plan.now asked c.args.schedule.now [])
          c.in_ok-answer_events.field-0
          (quietly c.in_ok-answer_events.field-0 c.if-asked.false
          (c.in_ok-answer_events.ensures asked.resolver c.requires.shared));
    }
