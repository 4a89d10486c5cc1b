use Rattle.std.proofs.Common.{◌+◌, ◌∙◌, sym, subst}
use Rattle.std.proofs.lemmas.Bool.{false≢true}
use Rattle.bip_forks.proofs.OpeningLemmas.{nothing_first, one_side}
use Rattle.bip_forks.specs.Opening.{AreFirstSides}
use Rattle.bip_forks.specs.Stations.{nothing_shared}
use Rattle.bip_forks.proofs.opening.first_sides.Goals as goal
use Rattle.bip_forks.proofs.opening.first_sides.Goals.{else-share}
use Rattle.bip_forks.proofs.opening.first_sides.Goals.{then-share+in_ok-first_side+in_ok-push}

pub loop-place-preserved : goal.loop-place-preserved
loop-place-preserved c = elim c.if-share.branch [
  | then-share+in_ok-first_side+in_ok-push w ↦
      subst (AreFirstSides c.args.plan.now c.args.base c.args.inters.now c.args.number.0
      c.args.inter (c.loop-place.place + 1)) (sym (w.sides-is ∙ w.in_ok-push.ensures.ok))
      (one_side c.args.plan.now c.args.base c.args.inters.now c.args.number.0 c.args.inter _
      c.loop-place.place c.loop-place.sides w.in_ok-first_side.field-0
      c.loop-place.invariant c.loop-place-test.true w.in_ok-first_side.ensures.side)
  | else-share w ↦
      subst (AreFirstSides c.args.plan.now c.args.base c.args.inters.now c.args.number.0
      c.args.inter (c.loop-place.place + 1)) (sym (w.sides-is ∙ w.push_nothing.ensures))
      (one_side c.args.plan.now c.args.base c.args.inters.now c.args.number.0 c.args.inter _
      c.loop-place.place c.loop-place.sides nothing_shared c.loop-place.invariant
      c.loop-place-test.true (nothing_first c.args.plan.now c.args.base c.args.number.0
      c.args.inter.0 c.loop-place.place _
      (λ is. false≢true (w.if-share.ensures.1 is))))
]
