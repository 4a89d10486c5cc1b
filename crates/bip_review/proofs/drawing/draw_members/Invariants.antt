use Rattle.std.proofs.Common.{◌≡◌, ◌++◌}
use Rattle.std.specs.List.{flat_map, range_with_len}
use Rattle.bip_model.specs.Partitions.{class_in}
use Rattle.bip_review.specs.Drawing.{member_text}
use Rattle.bip_review.proofs.drawing.draw_members.Given as goal

abbrev pub invariant-loop-number : goal.invariant-loop-number
invariant-loop-number l =
    l.text.items ≡ l.initial.text.items
    ++ flat_map (λ a. member_text l.plan l.class a (class_in l.plan.classes a))
    (range_with_len 0 l.number)
