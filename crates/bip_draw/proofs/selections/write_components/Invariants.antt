use Rattle.std.proofs.Common.{◌≡◌, ◌++◌}
use Rattle.std.specs.List.{flat_map, range_with_len}
use Rattle.bip_draw.specs.Selections.{component_part}
use Rattle.bip_draw.proofs.selections.write_components.Given as goal

abbrev pub invariant-loop-comp : goal.invariant-loop-comp
invariant-loop-comp l = l.text.items ≡ l.initial.text.items ++ flat_map
    (component_part l.cut.model.now l.cut.classes.now l.cut.selection.now) (range_with_len 0 l.comp)
