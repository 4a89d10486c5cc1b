use Rattle.std.proofs.Common.{◌≡◌, ◌++◌, take}
use Rattle.std.specs.List.{flat_map}
use Rattle.bip_reader.specs.Writing.{line_of_priority}
use Rattle.bip_reader.proofs.writing.write_priorities.Given as goal

abbrev pub invariant-loop-pair : goal.invariant-loop-pair
invariant-loop-pair l = l.text.items ≡ l.initial.text.items ++ flat_map (line_of_priority l.model)
    (take l.pair-index l.pair-items)
