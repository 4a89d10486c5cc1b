-- Records: schedules that lead to the trace of a run of threads.
use Rattle.std.specs.Prelude.{List, ℕ, ◌≡◌, ◌≢◌}
use Rattle.bip_bank.specs.Sharing.{Sharing}
use Rattle.bip_core.specs.Runs.{IsLossless, IsRunOfEvents}
use Rattle.bip_core.specs.Starting.{IsNewWorld}
use Rattle.bip_core.specs.Worlds.{WorldContent}
use Rattle.bip_core.specs.declared.events.Event.{Event}
use Rattle.bip_core.specs.declared.runs.Report.{Report}
use Rattle.bip_partition.specs.Plans.{Planned}
use Rattle.bip_replay.specs.Writing.{text_of}
use Rattle.bip_schedule.specs.Schedules.{IsEventText}
use Rattle.bip_schedule.specs.Writing.{HaveSpelling, IsWritten}

-- a text is a record of a trace: the schedule, in its one spelling, of events that lead from the
-- new world of a plan above 0, whose stations share this, to one with that trace; no event is
-- skipped and no message lost on the way
pub record IsRecordOf (p : Planned) (sharing : Sharing) (trace schedule : List ℕ) : Type 0 where
  pub events : List Event
  pub first : WorldContent
  pub last : WorldContent
  pub report : Report
  pub new : IsNewWorld p 0 first
  pub shared : first.bank.sharing ≡ sharing
  pub ran : IsRunOfEvents events first last report
  pub whole : IsLossless report
  pub leads : text_of p.model last.trace ≡ trace
  pub written : IsWritten p events schedule
  pub reads : IsEventText p schedule events

-- events are no record of a trace: they have no spelling; or they lead from that world to one with
-- another trace, where no event is skipped and no message lost
pub data AreNoRecordOf (p : Planned) (sharing : Sharing) (events : List Event) (trace : List ℕ)
    : Type 0 where
  unspelled : ¬ HaveSpelling p events → AreNoRecordOf p sharing events trace
  elsewhere : (first last : WorldContent) (report : Report) → IsNewWorld p 0 first
      → first.bank.sharing ≡ sharing → IsRunOfEvents events first last report
      → IsLossless report → text_of p.model last.trace ≢ trace
      → AreNoRecordOf p sharing events trace
