use Rattle.std.proofs.Common.{◌≡◌, ◌++◌}
use Rattle.std.specs.List.{flat_map, range_with_len}
use Rattle.bip_sequence.specs.Sequences.{lifeline_text}
use Rattle.bip_sequence.proofs.sequences.write_lifelines.Given as goal

abbrev pub invariant-loop-number : goal.invariant-loop-number
invariant-loop-number l = l.text.items ≡ l.initial.text.items ++ flat_map
    (lifeline_text l.grid l.plan l.stations) (range_with_len 0 l.number)
