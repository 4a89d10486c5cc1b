use Rattle.std.proofs.Common.{◌≡◌, ◌++◌, take}
use Rattle.std.specs.List.{flat_map}
use Rattle.bip_sequence.specs.Sequences.{row_text}
use Rattle.bip_sequence.proofs.sequences.write_rows.Given as goal

abbrev pub invariant-loop-row : goal.invariant-loop-row
invariant-loop-row l = l.text.items ≡ l.initial.text.items ++ flat_map
    (row_text l.grid l.plan l.stations) (take l.row-index l.rows)
