use Rattle.std.proofs.Common.{List}
use Rattle.bip_core.specs.Worlds.{world_of}
use Rattle.bip_core.specs.declared.events.Event.{Event}
use Rattle.bip_walk.specs.Chance.{generator_of}
use Rattle.bip_schedule.proofs.DrawLemmas.{IsDrawing}
use Rattle.bip_schedule.proofs.seeding.run_seed.Given as goal

abbrev pub invariant-loop : goal.invariant-loop
invariant-loop g l =
    (events : List Event) × IsDrawing l.draws.by (generator_of l.seed) (world_of l.initial.world)
    events (world_of l.world) l.words l.report l.counter
