use Rattle.std.proofs.Common.{◌≡◌, ◌≤◌, vec_capacity, vec_len}
use Rattle.bip_core.specs.Worlds.{world_of}
use Rattle.bip_walk.specs.Chance.{generator_of}
use Rattle.bip_schedule.specs.Writing.{HaveSpelling}
use Rattle.bip_schedule.proofs.DrawLemmas.{IsDrawing}
use Rattle.bip_schedule.proofs.seeding.seeded.Given as goal

abbrev pub invariant-loop : goal.invariant-loop
invariant-loop g l =
    IsDrawing l.draws.by (generator_of l.seed) (world_of l.initial.world) l.events.items
    (world_of l.world) l.words l.report l.counter
    × (vec_len l.events ≡ l.counter)
    × (l.draws.count ≤ vec_capacity l.events)
    × HaveSpelling (world_of l.initial.world).plan l.events.items
