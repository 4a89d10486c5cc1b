use Rattle.bip_core.specs.Worlds.{world_of}
use Rattle.bip_core.proofs.RunLemmas.{event_counted_or_skipped}
use Rattle.bip_core.proofs.runs.run_event.Goals as goal

pub returns-clause-done : goal.returns-clause-done
returns-clause-done g c =
    event_counted_or_skipped _ (world_of c.args.world.now) _ c.args.report.now _ c.args.event
    c.count_event-outcome.result c.count_event-outcome.ensures.some
    c.count_event-outcome.ensures.counted c.count_event-outcome.ensures.none
    c.count_event-outcome.ensures.skipped
