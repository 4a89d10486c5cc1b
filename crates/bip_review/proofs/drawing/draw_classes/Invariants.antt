use Rattle.std.proofs.Common.{◌≡◌, ◌++◌}
use Rattle.std.specs.List.{flat_map, range_with_len}
use Rattle.bip_review.specs.Drawing.{class_cluster, members_text}
use Rattle.bip_review.proofs.drawing.draw_classes.Given as goal

abbrev pub invariant-loop-number : goal.invariant-loop-number
invariant-loop-number l =
    l.text.items ≡ l.initial.text.items
    ++ flat_map (λ k. class_cluster l.plan k (members_text l.plan k)) (range_with_len 0 l.number)
