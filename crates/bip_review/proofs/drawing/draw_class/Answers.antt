use Rattle.std.proofs.Common.{ap, ◌∙◌}
use Rattle.bip_model.specs.declared.partitions.Partition.{Partition}
use Rattle.bip_review.proofs.DrawingLemmas.{class_parts}
use Rattle.bip_review.proofs.drawing.draw_class.Goals as goal

pub returns : goal.returns
returns c =
    let named = c.names.ensures ∙ ap (λ (k : Partition). k.names) c.classes.ensures.classes in
    class_parts c.args.plan.now c.args.class _ _ _ _ _ _ _ _ c.in_ok-extend_from_slice.ensures.items
    c.in_ok-write_number.ensures c.in_ok-extend_from_slice-2.ensures.items
    (rw named at c.in_ok-write_plain_name.ensures) c.in_ok-extend_from_slice-3.ensures.items
    c.in_ok-draw_members.ensures c.in_ok-extend_from_slice-4.ensures.items
