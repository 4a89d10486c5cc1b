use Rattle.bip_schedule.proofs.ScheduleLemmas.{HasTested}
use Rattle.bip_schedule.proofs.schedules.Schedule.of.Given as goal

abbrev pub invariant-loop-number : goal.invariant-loop-number
invariant-loop-number l = HasTested l.plan l.text l.known l.number-iterator
