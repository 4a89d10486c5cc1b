use Rattle.std.proofs.Common.{◌≡◌, ◌++◌, take}
use Rattle.std.specs.List.{flat_map}
use Rattle.bip_draw.specs.Drawing.{priority_text}
use Rattle.bip_draw.proofs.drawing.write_priorities.Given as goal

abbrev pub invariant-loop-pair : goal.invariant-loop-pair
invariant-loop-pair l = l.text.items ≡ l.initial.text.items ++ flat_map (priority_text)
    (take l.pair-index l.priorities)
