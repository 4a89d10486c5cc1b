use Rattle.std.proofs.Common.{◌≤◌, ◌-◌}
use Rattle.bip_core.specs.Worlds.{world_of}
use Rattle.bip_schedule.specs.Busy.{HaveWork, asked_at}
use Rattle.bip_schedule.proofs.busy.count_asked.Given as goal

abbrev pub invariant-loop-number : goal.invariant-loop-number
invariant-loop-number g l =
    HaveWork (world_of l.world) (asked_at (world_of l.world).plan l.stations l.kind) l.number l.busy
    × (l.number ≤ l.count)

abbrev pub decreases-loop-number : goal.decreases-loop-number
decreases-loop-number g l = l.count - l.number
