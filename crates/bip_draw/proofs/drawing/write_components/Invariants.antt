use Rattle.std.proofs.Common.{◌≡◌, ◌++◌}
use Rattle.std.specs.List.{flat_map, range_with_len}
use Rattle.bip_model.specs.Naming.{name_in}
use Rattle.bip_reader.specs.Writing.{component_in}
use Rattle.bip_draw.specs.Drawing.{cluster_text}
use Rattle.bip_draw.proofs.drawing.write_components.Given as goal

abbrev pub invariant-loop-number : goal.invariant-loop-number
invariant-loop-number l = l.text.items ≡ l.initial.text.items ++ flat_map
    (λ c. cluster_text c (name_in l.model.component_names c) (component_in l.model c))
    (range_with_len 0 l.number)
