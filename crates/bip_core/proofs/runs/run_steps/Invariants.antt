use Rattle.std.proofs.Common.{take}
use Rattle.bip_core.specs.Runs.{AddsUp, IsRunOfEvents}
use Rattle.bip_core.specs.Worlds.{world_of}
use Rattle.bip_core.proofs.runs.run_steps.Given as goal

abbrev pub invariant-loop-event : goal.invariant-loop-event
invariant-loop-event g l = IsRunOfEvents (take l.event-index l.events) (world_of l.initial.world)
    (world_of l.world) l.report × AddsUp l.report
