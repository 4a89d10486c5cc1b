use Rattle.std.proofs.Common.{[], refl}
use Rattle.bipr.specs.Scheduled.{IsScheduleOf}
use Rattle.bipr.specs.Scheduled.{lacking, untold}
use Rattle.bipr.specs.Streams.{none_put}
use Rattle.bipr.proofs.EndingLemmas.{lacks_quietly, outcome_answered}
use Rattle.bipr.proofs.ScheduledLemmas.{has_refused}
use Rattle.bipr.proofs.scheduled.answer_aloud.Goals as goal

pub returns-in_err-refuse_schedule-in-Err : goal.returns-in_err-refuse_schedule-in-Err
returns-in_err-refuse_schedule-in-Err g c =
    lacks_quietly _ _ c.from_residual.result _ c.from_residual.ensures.1 lacking

pub returns-in_ok-refuse_schedule-in-Err : goal.returns-in_ok-refuse_schedule-in-Err
returns-in_ok-refuse_schedule-in-Err g c =
    record {
      told = [];
      on_the_way = none_put;
      outcomes =
          outcome_answered (IsScheduleOf c.args.plan.now c.args.asked.now c.args.schedule.now [])
          c.in_ok-refuse_schedule-in-Err.field-0
          (untold _ (has_refused c.args.plan.now c.args.schedule.now _ _ c.in-Err.line
          c.in-Err.fault c.in_ok-refuse_schedule-in-Err.ensures.refused refl
          c.in-Err.ensures.fault.1 c.in-Err.ensures.fault.0));
    }

pub returns-in-Ok : goal.returns-in-Ok
returns-in-Ok g c = c.answer_telling.ensures c.args.schedule.now c.in-Ok.ensures.events
