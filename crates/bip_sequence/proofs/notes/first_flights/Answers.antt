use Rattle.std.proofs.Common.{map, sym}
use Rattle.bip_sequence.proofs.NoteLemmas.{mapped_one}
use Rattle.bip_sequence.specs.Notes.{first_flight}
use Rattle.bip_sequence.proofs.notes.first_flights.Goals as goal

pub loop-place-preserved : goal.loop-place-preserved
loop-place-preserved g c =
    let mail = c.args.world.now.mail in
    mapped_one first_flight c.loop-place.place c.in-Some.message mail c.first_flight.result
    c.loop-place.flights.items c.push.new.self.items (map first_flight mail)
    (rw (← c.mails-place-end.ensures) c.loop-place-test.true) (sym c.in-Some.ensures)
    c.in_ok-push.ensures.items c.first_flight.ensures c.loop-place.invariant
