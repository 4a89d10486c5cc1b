use Rattle.std.proofs.Common.{◌≡◌, ◌++◌, take}
use Rattle.std.specs.List.{flat_map}
use Rattle.bip_model.specs.Parts.{components_in}
use Rattle.bip_review.specs.Drawing.{moved_edge}
use Rattle.bip_review.proofs.drawing.draw_moved.Given as goal

abbrev pub invariant-loop-participant : goal.invariant-loop-participant
invariant-loop-participant l = l.text.items ≡ l.initial.text.items ++ flat_map
    (moved_edge l.inter.0) (components_in (take l.participant-index l.moved))
