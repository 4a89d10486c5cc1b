use Rattle.std.proofs.Common.{ap, ◌∙◌}
use Rattle.bip_model.specs.declared.parts.System.{System}
use Rattle.bip_review.proofs.DrawingLemmas.{component_parts}
use Rattle.bip_review.proofs.WritingLemmas.{is_standing}
use Rattle.bip_review.proofs.drawing.draw_component.Goals as goal

pub returns : goal.returns
returns c =
    let named = c.component_names.ensures.names
    ∙ ap (λ (m : System). m.component_names) c.model.ensures in
    component_parts c.args.plan.now c.args.comp.0 c.classes_of-classes.result.now
    c.row_reason.result _ _ _ _ c.in_ok-write_node.ensures c.in_ok-write_ellipse.ensures
    (rw named at c.in_ok-write_label.ensures)
    c.classes_of-classes.ensures (is_standing c.args.plan.now c.args.comp.0 c.row_reason.result
    c.row_reason.ensures.some c.row_reason.ensures.none)
