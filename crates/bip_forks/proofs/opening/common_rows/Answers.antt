use Rattle.std.proofs.Common.{refl}
use Rattle.std.proofs.lemmas.Bool.{false≢true}
use Rattle.bip_forks.proofs.OpeningLemmas.{all_rows, no_row, no_rows, one_row}
use Rattle.bip_forks.proofs.opening.common_rows.Goals as goal
use Rattle.bip_forks.proofs.opening.common_rows.Goals.{else-stands_at, then-stands_at+in_ok-push}

pub loop-comp-init : goal.loop-comp-init
loop-comp-init c = rw (c.of-rows.ensures, c.new.ensures.items)
    (no_rows c.args.plan.now c.args.inter.0 c.args.other.0 c.args.base c.touches-own.result.now
    c.touches-others.result.now c.touches-own.ensures.touches c.touches-others.ensures.touches)

pub loop-comp-preserved : goal.loop-comp-preserved
loop-comp-preserved c = elim c.if-stands_at.branch [
  | then-stands_at+in_ok-push w ↦ rw (w.rows-is, w.in_ok-push.ensures.ok)
      (one_row c.args.plan.now c.args.inter.0 c.args.other.0 c.args.base c.touches-own.result.now
      c.touches-others.result.now c.touches-own.ensures.touches c.touches-others.ensures.touches
      c.loop-comp.comp-index c.loop-comp.passed c.first_not_lower-passed.result c.loop-comp.rows
      c.loop-comp-test.true c.loop-comp.invariant c.first_not_lower-passed.ensures.lower
      c.first_not_lower-passed.ensures.reached (w.if-stands_at.ensures.0 refl))
  | else-stands_at w ↦ rw w.rows-is
      (no_row c.args.plan.now c.args.inter.0 c.args.other.0 c.args.base c.touches-own.result.now
      c.touches-others.result.now c.touches-own.ensures.touches c.touches-others.ensures.touches
      c.loop-comp.comp-index c.loop-comp.passed c.first_not_lower-passed.result c.loop-comp.rows
      c.loop-comp-test.true c.loop-comp.invariant c.first_not_lower-passed.ensures.lower
      c.first_not_lower-passed.ensures.reached
      (λ at. false≢true (w.if-stands_at.ensures.1 at)))
]

pub returns : goal.returns
returns c =
    all_rows c.args.plan.now c.args.inter.0 c.args.other.0 c.args.base c.touches-own.result.now
    c.touches-others.result.now c.touches-own.ensures.touches c.touches-others.ensures.touches
    c.loop-comp.comp-index c.loop-comp.passed c.loop-comp.rows c.loop-comp-test.false
    c.loop-comp.invariant
