use Rattle.std.specs.Prelude.{All}
use Rattle.bip_model.specs.Naming.{IsName}
use Rattle.std.proofs.Common.{◌≡◌, ◌++◌, take}
use Rattle.std.specs.List.{flat_map}
use Rattle.bip_reader.specs.Writing.{line_of_name}
use Rattle.bip_reader.proofs.writing.write_names.Given as goal

abbrev pub invariant-loop-name : goal.invariant-loop-name
invariant-loop-name l = (l.text.items ≡ l.initial.text.items ++ flat_map (line_of_name l.keyword)
    (take l.name-index l.names)) × All IsName (take l.name-index l.names)
