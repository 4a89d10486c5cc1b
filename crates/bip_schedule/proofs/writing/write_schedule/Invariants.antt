use Rattle.std.proofs.Common.{◌≡◌, take, All}
use Rattle.bip_replay.specs.Items.{ReadsBack}
use Rattle.bip_schedule.specs.Lines.{event_on}
use Rattle.bip_schedule.specs.Writing.{event_line, schedule_text}
use Rattle.bip_schedule.proofs.writing.write_schedule.Given as goal

abbrev pub invariant-loop-event : goal.invariant-loop-event
invariant-loop-event l =
    record {
      text : l.text.items ≡ schedule_text l.plan l.stations (take l.event-index l.events);
      read : All (ReadsBack (event_on l.plan l.stations) (event_line l.plan l.stations))
          (take l.event-index l.events);
    }
