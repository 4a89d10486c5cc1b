use Rattle.std.proofs.Common.{◌≡◌, ◌++◌, drop, map}
use Rattle.bip_sequence.specs.Notes.{first_flight}
use Rattle.bip_sequence.proofs.notes.first_flights.Given as goal

abbrev pub invariant-loop-place : goal.invariant-loop-place
invariant-loop-place g l =
    l.flights.items ++ map first_flight (drop l.place l.world.mail) ≡ map first_flight l.world.mail
