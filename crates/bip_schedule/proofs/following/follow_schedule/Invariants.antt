use Rattle.bip_core.specs.Worlds.{world_of}
use Rattle.bip_schedule.proofs.FollowLemmas.{HasFollowed}
use Rattle.bip_schedule.proofs.following.follow_schedule.Given as goal

abbrev pub invariant-loop-number : goal.invariant-loop-number
invariant-loop-number g l = HasFollowed l.initial.world.plan l.text l.known l.number-iterator
    (world_of l.initial.world) (world_of l.world) l.report
