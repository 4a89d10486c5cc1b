use Rattle.std.proofs.Common.{sym}
use Rattle.bip_sequence.proofs.NoteLemmas.{mapped_one}
use Rattle.bip_sequence.specs.Notes.{flight_of}
use Rattle.bip_sequence.proofs.notes.put_sent.Goals as goal

pub loop-place-preserved : goal.loop-place-preserved
loop-place-preserved g c =
    mapped_one (flight_of c.args.number c.args.at) c.loop-place.place c.in-Some.message
    c.args.world.now.mail c.flight_of.result c.loop-place.flights.items c.push.new.self.items _
    (rw (← c.mails-place-end.ensures) c.loop-place-test.true) (sym c.in-Some.ensures)
    c.in_ok-push.ensures.items c.flight_of.ensures c.loop-place.invariant
