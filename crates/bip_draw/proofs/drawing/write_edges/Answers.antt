use Rattle.std.proofs.Common.{◌≡◌, ◌∙◌, false, refl, sym, take, true}
use Rattle.std.specs.List.{list_any}
use Rattle.bip_draw.specs.Drawing.{edge_text, are_parallel}
use Rattle.bip_draw.proofs.EdgeLemmas.{drawn_before, drawn_now}
use Rattle.bip_draw.proofs.drawing.write_edges.Goals.{else-not-has_parallel}
use Rattle.bip_draw.proofs.drawing.write_edges.Goals.{then-not-has_parallel+in_ok-write_edge}
use Rattle.bip_draw.proofs.drawing.write_edges.Goals as goal

pub loop-index-preserved : goal.loop-index-preserved
loop-index-preserved c =
    let f = edge_text c.args.comp c.args.component.now in
    let ts = c.as_slice-transitions.result.now in
    let i = c.loop-index.index in
    let t = c.index-transitions-index.result in
    let within = c.loop-index-test.true in
    let at = c.index-transitions-index.is in
    elim c.if-not-has_parallel.branch [
      | then-not-has_parallel+in_ok-write_edge w ↦
          let first : list_any (λ u. are_parallel u t) (take i ts) ≡ false =
          sym c.has_parallel.ensures ∙ w.if-not-has_parallel.true in
          rw (w.text-is, w.in_ok-write_edge.ensures, c.loop-index.invariant, at)
          (sym (drawn_now f ts i t within (rw at at first) c.args.text.now.items))
      | else-not-has_parallel w ↦
          let again : list_any (λ u. are_parallel u t) (take i ts) ≡ true =
          sym c.has_parallel.ensures ∙ w.if-not-has_parallel.false in
          rw (w.text-is, c.loop-index.invariant, drawn_before f ts i t within (rw at at again)) refl
    ]
