use Rattle.std.proofs.Common.{length, refl, ap, arith}
use Rattle.std.proofs.lemmas.Bool.{false≢true}
use Rattle.bip_review.specs.Drawing.{conflict_text}
use Rattle.bip_review.proofs.StationLemmas.{all_conflicts, no_conflict, one_conflict, other_skipped}
use Rattle.bip_review.proofs.drawing.draw_conflicts_of.Goals as goal

pub loop-number-init : goal.loop-number-init
loop-number-init c = no_conflict c.args.plan.now (conflict_text c.args.inter.0)
    c.args.inter.0 c.args.text.now.items

pub loop-number-preserved : goal.loop-number-preserved
loop-number-preserved c = elim c.if-conflicts_with.branch [
  | goal.then-conflicts_with+in_ok-draw_conflict w ↦
      rw w.text-is (one_conflict c.args.plan.now (conflict_text c.args.inter.0)
      c.args.inter.0 c.loop-number.number
      c.args.text.now.items c.loop-number.text.items w.draw_conflict.new.text.items
      c.loop-number.invariant (w.if-conflicts_with.ensures.0 refl)
      w.in_ok-draw_conflict.ensures)
  | goal.else-conflicts_with w ↦
      rw w.text-is (other_skipped c.args.plan.now (conflict_text c.args.inter.0)
      c.args.inter.0 c.loop-number.number
      c.args.text.now.items c.loop-number.text.items c.loop-number.invariant
      (λ is. false≢true (w.if-conflicts_with.ensures.1 is)))
]

pub returns : goal.returns
returns c =
    let all = rw c.model.ensures at c.interactions-number-end.ensures.interactions in
    let each = c.loop-number.invariant in
    record {
      fact = each.list;
      holds = all_conflicts c.args.plan.now (conflict_text c.args.inter.0)
          c.args.inter.0 c.loop-number.number c.args.text.now.items c.loop-number.text.items
          (rw c.model.ensures at c.interactions-number-end.ensures.valid)
          (omega (arith, c.loop-number-test.false, ap length all)) each;
      added = each.added;
    }
