use Rattle.bip_core.specs.Worlds.{world_of}
use Rattle.bip_sequence.proofs.RunLemmas.{HasNoted}
use Rattle.bip_sequence.proofs.notes.note_events.Given as goal

abbrev pub invariant-loop-event : goal.invariant-loop-event
invariant-loop-event g l = HasNoted l.fn.events l.event-iterator (world_of l.initial.world)
    (world_of l.world) l.initial.notes l.notes l.report
