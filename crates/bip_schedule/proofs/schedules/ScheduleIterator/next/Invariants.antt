use Rattle.std.proofs.Common.{length}
use Rattle.bip_schedule.proofs.ScheduleLemmas.{HasLeft}
use Rattle.bip_schedule.proofs.schedules.ScheduleIterator.next.Given as goal

abbrev pub invariant-loop-line : goal.invariant-loop-line
invariant-loop-line l = HasLeft l.initial.self-inside.known l.self-inside.known
    l.initial.self-inside.lines l.self-inside.lines

abbrev pub decreases-loop-line : goal.decreases-loop-line
decreases-loop-line l = length l.self-inside.lines
