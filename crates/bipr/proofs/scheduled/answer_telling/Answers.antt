use Rattle.std.proofs.Common.{subst, sym}
use Rattle.bip_core.specs.Worlds.{world_of}
use Rattle.bip_partition.specs.Plans.{Planned}
use Rattle.bip_schedule.specs.Writing.{HaveSpelling}
use Rattle.bipr.specs.Scheduled.{IsScheduleOf, lacking}
use Rattle.bipr.proofs.EndingLemmas.{lacks_quietly, outcome_answered, outcome_lacking}
use Rattle.bipr.proofs.TellingLemmas.{told_all, told_all_lacking, told_err, told_unheard}
use Rattle.bipr.proofs.scheduled.answer_telling.Goals as goal

pub tell_events-requires-clause-spelled : goal.tell_events-requires-clause-spelled
tell_events-requires-clause-spelled g c =
    subst (λ (q : Planned). HaveSpelling q c.args.events) (sym c.in_ok-world.ensures.new.plan)
    c.requires.spelled

pub returns-in_err-world : goal.returns-in_err-world
returns-in_err-world g c = λ text says.
    lacks_quietly _ _ c.from_residual.result _ c.from_residual.ensures.1 lacking

pub returns-in_err-report : goal.returns-in_err-report
returns-in_err-report g c =
    let said = c.in_err-report.ensures.told in λ text says.
    record {
      told = said.0;
      on_the_way = said.1;
      outcomes = outcome_lacking c.from_residual-in_err-report.result
          (IsScheduleOf c.args.plan.now c.args.asked.now text said.0)
          c.from_residual-in_err-report.ensures.1
          (told_err _ _ _ _ text _ (world_of c.in_ok-world.world) (world_of c.tell_events.new.world) _
          c.requires.told says c.in_ok-world.ensures.new
          (rw c.in_ok-world.ensures.sharing c.requires.shared) _ said.2);
    }

pub returns-in_err-answer_run-in-Some : goal.returns-in_err-answer_run-in-Some
returns-in_err-answer_run-in-Some g c =
    let said = c.in_ok-report.ensures.told in λ text says.
    record {
      told = said.0;
      on_the_way = said.1;
      outcomes = outcome_lacking c.from_residual-in_err-answer_run-in-Some.result
          (IsScheduleOf c.args.plan.now c.args.asked.now text said.0)
          c.from_residual-in_err-answer_run-in-Some.ensures.1
          (told_all_lacking _ _ _ _ text _ (world_of c.in_ok-world.world)
          (world_of c.tell_events.new.world) _ c.requires.told says c.in_ok-world.ensures.new
          (rw c.in_ok-world.ensures.sharing c.requires.shared) c.in-Some.report
          (rw (← c.in-Some.is) said.2));
    }

pub returns-in-Some : goal.returns-in-Some
returns-in-Some g c =
    let said = c.in_ok-report.ensures.told in
    let ran = c.in_ok-answer_run-in-Some.ensures in λ text says.
    record {
      told = said.0;
      on_the_way = said.1;
      outcomes = outcome_answered
          (IsScheduleOf c.args.plan.now c.args.asked.now text said.0)
          c.in_ok-answer_run-in-Some.field-0
          (told_all _ _ _ _ text _ (world_of c.in_ok-world.world) (world_of c.tell_events.new.world) _
          c.requires.told says c.in_ok-world.ensures.new
          (rw c.in_ok-world.ensures.sharing c.requires.shared) c.in-Some.report
          c.world_laws.ensures.plan ran.ran (rw (← c.in-Some.is) said.2)
          c.in_ok-answer_run-in-Some.field-0 ran.answer ran.reads);
    }

pub returns : goal.returns
returns g c =
    let said = c.in_ok-report.ensures.told in λ text says.
    record {
      told = said.0;
      on_the_way = said.1;
      outcomes = outcome_answered
          (IsScheduleOf c.args.plan.now c.args.asked.now text said.0) _
          (told_unheard _ _ _ _ text _ (world_of c.in_ok-world.world)
          (world_of c.tell_events.new.world) _ c.requires.told says c.in_ok-world.ensures.new
          (rw c.in_ok-world.ensures.sharing c.requires.shared)
          (rw (← c.in-None.is) said.2));
    }
