use Rattle.std.proofs.Common.{◌≡◌, ◌∙◌, arith, false, get_or, refl, sym, true}
use Rattle.std.proofs.lemmas.List.Filters.{length-filter_more}
use Rattle.bip_draw.specs.Drawing.{are_parallel, transition_text}
use Rattle.bip_draw.proofs.EdgeLemmas.{left_out, set_below}
use Rattle.bip_draw.proofs.drawing.write_edge_label.Goals.{else-are_parallel}
use Rattle.bip_draw.proofs.drawing.write_edge_label.Goals.{
  then-are_parallel+in_ok-write_next_transition,
}
use Rattle.bip_draw.proofs.drawing.write_edge_label.Goals as goal

pub loop-other-preserved : goal.loop-other-preserved
loop-other-preserved c =
    let p = are_parallel c.args.transition.now in
    let ts = c.as_slice-other-items.result.now in
    let i = c.loop-other.other-index in
    let t = c.other-item.result in
    let within = c.loop-other-test.true in
    let so = c.loop-other.invariant in
    let at = c.other-item.is in
    elim c.if-are_parallel.branch [
      | then-are_parallel+in_ok-write_next_transition w ↦
          let is : p t ≡ true = sym c.are_parallel.ensures ∙ w.if-are_parallel.true in
          let passes : p (get_or ts i t) ≡ true = rw (← at) is in
          record {
            text = rw (
              w.text-is,
              w.in_ok-write_next_transition.ensures,
              so.text,
              so.count,
              at,
            )
                (sym (set_below p ts i t within passes c.gap_of-gap.result.now
                (transition_text c.args.component.now) c.args.text.now.items));
            count = rw (w.count-is, length-filter_more p ts i t within, passes, so.count) refl;
            small = omega (arith, w.count-is, so.small);
          }
      | else-are_parallel w ↦
          let is : p t ≡ false = sym c.are_parallel.ensures ∙ w.if-are_parallel.false in
          let fails : p (get_or ts i t) ≡ false = rw (← at) is in
          record {
            text = rw (w.text-is, so.text, left_out p ts i t within fails) refl;
            count = rw (w.count-is, so.count, left_out p ts i t within fails) refl;
            small = omega (arith, w.count-is, so.small);
          }
    ]
