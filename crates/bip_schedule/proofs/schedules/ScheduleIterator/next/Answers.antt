use Rattle.std.proofs.Common.{rules}
use Rattle.bip_schedule.proofs.ScheduleLemmas.{left-event, left-none, left-nothing}
use Rattle.bip_schedule.proofs.schedules.ScheduleIterator.next.Goals as goal

pub loop-line-init : goal.loop-line-init
loop-line-init c = left-none _ _ c.self.invariant

pub loop-line-preserved : goal.loop-line-preserved
loop-line-preserved c =
    left-nothing _ _ _ _ _ _ _ _ c.loop-line.invariant c.in-Some.ensures.steps
    (search rules) c.in-Ok-None.ensures.same

pub invariant_of-self : goal.invariant_of-self
invariant_of-self c =
    let next = left-event _ _ _ _ _ _ _ _ c.in-Ok-Some.event c.loop-line.invariant
    c.in-Some.ensures.steps (search rules) c.in-Ok-Some.ensures.same in
    next.well
