use Rattle.std.specs.Prelude.{All}
use Rattle.std.proofs.Common.{take}
use Rattle.bip_model.specs.Naming.{IsName}
use Rattle.bip_reader.specs.Writing.{IsSpelledComponent}
use Rattle.std.proofs.Common.{◌≡◌, ◌++◌}
use Rattle.std.specs.List.{flat_map, range_with_len}
use Rattle.bip_model.specs.Naming.{name_in}
use Rattle.bip_reader.specs.Writing.{component_in, lines_of_component}
use Rattle.bip_reader.proofs.writing.write_components.Given as goal

abbrev pub invariant-loop-number : goal.invariant-loop-number
invariant-loop-number l = (l.text.items ≡ l.initial.text.items ++ flat_map
    (λ c. lines_of_component (name_in l.model.component_names c) (component_in l.model c))
    (range_with_len 0 l.number)) × All IsName (take l.number l.model.component_names)
    × All IsSpelledComponent (take l.number l.model.components)
