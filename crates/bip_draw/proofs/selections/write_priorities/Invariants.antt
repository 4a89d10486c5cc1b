use Rattle.std.proofs.Common.{◌≡◌, ◌++◌, take}
use Rattle.std.specs.List.{flat_map}
use Rattle.bip_draw.specs.Selections.{priority_part}
use Rattle.bip_draw.proofs.selections.write_priorities.Given as goal

abbrev pub invariant-loop-pair : goal.invariant-loop-pair
invariant-loop-pair l = l.text.items ≡ l.initial.text.items ++ flat_map
    (priority_part l.cut.model.now l.cut.classes.now l.cut.selection.now)
    (take l.pair-index l.priorities)
