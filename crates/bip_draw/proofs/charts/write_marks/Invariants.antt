use Rattle.std.proofs.Common.{◌≡◌, ◌++◌, take}
use Rattle.std.specs.List.{flat_map}
use Rattle.bip_draw.specs.Charts.{mark_text}
use Rattle.bip_draw.proofs.charts.write_marks.Given as goal

abbrev pub invariant-loop-want : goal.invariant-loop-want
invariant-loop-want l = l.text.items ≡ l.initial.text.items ++ flat_map (mark_text l.layout l.names)
    (take l.want-index l.wants)
