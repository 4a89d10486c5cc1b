use Rattle.std.proofs.Common.{◌≡◌}
use Rattle.bip_core.specs.Worlds.{world_of}
use Rattle.bipr.proofs.TellingLemmas.{HasTold}
use Rattle.bipr.proofs.scheduled.tell_events.Given as goal

abbrev pub invariant-loop-event : goal.invariant-loop-event
invariant-loop-event g l = record {
  so : HasTold g.E.Stream.writes l.initial.errors l.errors l.fn.events l.event-iterator
      (world_of l.initial.world) (world_of l.world) l.report;
  plan : l.world.plan ≡ l.initial.world.plan;
}
