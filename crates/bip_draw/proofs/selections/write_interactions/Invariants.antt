use Rattle.std.proofs.Common.{◌≡◌, ◌++◌}
use Rattle.std.specs.List.{flat_map, range_with_len}
use Rattle.bip_draw.specs.Selections.{interaction_part}
use Rattle.bip_draw.proofs.selections.write_interactions.Given as goal

abbrev pub invariant-loop-number : goal.invariant-loop-number
invariant-loop-number l = l.text.items ≡ l.initial.text.items ++ flat_map
    (interaction_part l.cut.model.now l.cut.classes.now l.cut.selection.now)
    (range_with_len 0 l.number)
