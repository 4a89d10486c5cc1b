use Rattle.std.proofs.Common.{◌≡◌, ◌++◌, take}
use Rattle.std.specs.List.{flat_map}
use Rattle.bip_review.specs.Drawing.{looked_edge}
use Rattle.bip_review.proofs.drawing.draw_looks.Given as goal

abbrev pub invariant-loop-comp : goal.invariant-loop-comp
invariant-loop-comp l = l.text.items ≡ l.initial.text.items ++ flat_map
    (looked_edge l.inter.0) (take l.comp-index l.seen)
