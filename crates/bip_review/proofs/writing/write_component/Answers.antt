use Rattle.bip_review.proofs.WritingLemmas.{classes_known, component_line, is_standing}
use Rattle.bip_review.proofs.WritingLemmas.{reasons_known}
use Rattle.bip_review.proofs.writing.write_component.Goals as goal

pub write_standing-requires : goal.write_standing-requires
write_standing-requires c = record {
  classes = classes_known c.args.plan.now c.args.comp.0 c.classes_of.result.now
      c.classes_of.ensures;
  reason = reasons_known c.args.plan.now c.args.comp.0 c.row_reason.result c.recall.ensures.valid
      c.row_reason.ensures.some;
}

pub returns : goal.returns
returns c =
    component_line c.args.plan.now c.args.comp.0 c.classes_of.result.now c.row_reason.result _ _ _ _
    _
    c.in_ok-extend_from_slice.ensures.items c.in_ok-write_comp_name.ensures
    c.in_ok-write_standing.ensures c.in_ok-push.ensures.items
    c.classes_of.ensures (is_standing c.args.plan.now c.args.comp.0 c.row_reason.result
    c.row_reason.ensures.some c.row_reason.ensures.none)
