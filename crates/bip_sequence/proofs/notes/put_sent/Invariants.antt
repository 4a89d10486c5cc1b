use Rattle.std.proofs.Common.{◌≡◌, ◌++◌, drop, map}
use Rattle.bip_sequence.specs.Notes.{flight_of}
use Rattle.bip_sequence.proofs.notes.put_sent.Given as goal

abbrev pub invariant-loop-place : goal.invariant-loop-place
invariant-loop-place g l =
    l.flights.items ++ map (flight_of l.number l.at) (drop l.place l.world.mail)
    ≡ l.initial.flights.items ++ map (flight_of l.number l.at) (drop l.left l.world.mail)
