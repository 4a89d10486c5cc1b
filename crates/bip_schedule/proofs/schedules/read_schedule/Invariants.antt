use Rattle.std.specs.Prelude.{All}
use Rattle.bip_replay.proofs.ItemLemmas.{HasRead}
use Rattle.bip_schedule.specs.Lines.{event_on}
use Rattle.bip_schedule.specs.Writing.{HasSpelling}
use Rattle.bip_schedule.proofs.schedules.read_schedule.Given as goal

abbrev pub invariant-loop-number : goal.invariant-loop-number
invariant-loop-number l =
    HasRead (event_on l.plan l.stations) l.text l.events.items l.number-iterator
    × All (HasSpelling l.plan l.stations) l.events.items
