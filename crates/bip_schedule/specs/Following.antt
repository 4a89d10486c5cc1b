-- Schedules that are followed line by line.
use Rattle.std.specs.Prelude.{List, Ok, take, ℕ, ◌-◌, ◌≡◌}
use Rattle.bip_core.specs.Runs.{IsRunOfEvents}
use Rattle.bip_core.specs.Worlds.{WorldContent}
use Rattle.bip_core.specs.declared.events.Event.{Event}
use Rattle.bip_core.specs.declared.runs.Report.{Report}
use Rattle.bip_model.specs.Texts.{lines}
use Rattle.bip_model.specs.declared.numbering.InterId.{InterId}
use Rattle.bip_partition.specs.Plans.{AreStations, Planned}
use Rattle.bip_replay.specs.Items.{items_from}
use Rattle.bip_schedule.specs.Lines.{event_on}

-- the events of the lines before the one with this number lead from one world to another
pub record IsFollowedUntil (p : Planned) (text : List ℕ) (number : ℕ) (w v : WorldContent)
    : Type 0 where
  pub stations : List InterId
  pub are : AreStations p stations
  pub events : List Event
  pub reads : items_from (event_on p stations) 1 (take (number - 1) (lines text)) ≡ Ok events
  pub report : Report
  pub ran : IsRunOfEvents events w v report
