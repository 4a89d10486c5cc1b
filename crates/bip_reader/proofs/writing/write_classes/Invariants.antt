use Rattle.std.specs.Prelude.{All}
use Rattle.std.proofs.Common.{take}
use Rattle.bip_model.specs.Naming.{IsName}
use Rattle.std.proofs.Common.{◌≡◌, ◌++◌}
use Rattle.std.specs.List.{flat_map, range_with_len}
use Rattle.bip_reader.specs.Writing.{line_of_class}
use Rattle.bip_reader.proofs.writing.write_classes.Given as goal

abbrev pub invariant-loop-number : goal.invariant-loop-number
invariant-loop-number l = (l.text.items ≡ l.initial.text.items ++ flat_map
    (line_of_class l.model l.classes) (range_with_len 0 l.number))
    × All IsName (take l.number l.classes.names)
