use Rattle.std.proofs.Common.{refl, ◌∙◌, ◌+◌, arith}
use Rattle.bip_explain.proofs.LineLemmas.{at_end, at_first, at_next, line_zero}
use Rattle.bip_explain.proofs.ScopeLemmas.{stands_behind, stands_there, stands_last}
use Rattle.bip_explain.proofs.scopes.standing_behind.Goals as goal

pub loop-number-init : goal.loop-number-init
loop-number-init c = (
  1,
  at_first _ _ (c.into_iter-number-iterator.ensures.into_iter_gives ∙ c.of-number-items.ensures),
  λ n h. rw (line_zero c.args.text.now n h) refl,
)

pub returns-then-last-number : goal.returns-then-last-number
returns-then-last-number c =
    let next = at_next _ _ _ _ _ _ c.loop-number.invariant.1 c.in-Some.ensures.steps in
    stands_there c.args.text.now (c.args.last + 1) c.loop-number.invariant.0 c.loop-number.standing
    (omega (arith, next.number)) c.loop-number.invariant.2

pub loop-number-preserved : goal.loop-number-preserved
loop-number-preserved c =
    let next = at_next _ _ _ _ _ _ c.loop-number.invariant.1 c.in-Some.ensures.steps in (
      c.loop-number.invariant.0 + 1,
      next.later,
      stands_behind c.args.text.now (c.args.last + 1) c.loop-number.invariant.0
          c.loop-number.standing c.behind-standing.result
          (omega (arith, next.number)) c.loop-number.invariant.2
          (rw (← next.number) (rw next.line_is c.behind-standing.ensures)),
    )

pub returns : goal.returns
returns c =
    stands_last c.args.text.now (c.args.last + 1) c.loop-number.invariant.0 c.loop-number.standing
    (at_end _ _ _ c.loop-number.invariant.1 c.in-None.ensures.steps.0) c.loop-number.invariant.2
