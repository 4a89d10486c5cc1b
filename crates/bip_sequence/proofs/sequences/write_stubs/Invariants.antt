use Rattle.std.proofs.Common.{◌≡◌, ◌++◌, take}
use Rattle.std.specs.List.{flat_map}
use Rattle.bip_sequence.specs.Sequences.{air_text}
use Rattle.bip_sequence.proofs.sequences.write_stubs.Given as goal

abbrev pub invariant-loop-flight : goal.invariant-loop-flight
invariant-loop-flight l = l.text.items ≡ l.initial.text.items ++ flat_map
    (air_text l.grid l.plan l.stations) (take l.flight-index l.flights)
