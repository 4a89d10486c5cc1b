use Rattle.std.proofs.Common.{refl, ◌∙◌, ◌+◌, rules, below_more}
use Rattle.bip_explain.proofs.LineLemmas.{at_first, at_next, line_zero}
use Rattle.bip_explain.proofs.ends.is_parted.Goals as goal

pub loop-number-init : goal.loop-number-init
loop-number-init c = (
  1,
  at_first _ _ (c.into_iter-number-iterator.ensures.into_iter_gives ∙ c.of-number-items.ensures),
  λ n h. rw (line_zero c.args.text.now n h) refl,
)

pub loop-number-preserved : goal.loop-number-preserved
loop-number-preserved c =
    let next = at_next _ _ _ _ _ _ c.loop-number.invariant.1 c.in-Some.ensures.steps in (
      c.loop-number.invariant.0 + 1,
      next.later,
      below_more _ _ c.loop-number.invariant.2
          (rw (← next.number) (rw next.line_is (search rules))),
    )
