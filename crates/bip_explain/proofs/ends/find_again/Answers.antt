use Rattle.std.proofs.Common.{◌+◌, ◌∙◌, sym}
use Rattle.bip_explain.proofs.LineLemmas.{at_next}
use Rattle.bip_explain.proofs.ends.find_again.Goals as goal

pub returns-then-is_again-clause-is : goal.returns-then-is_again-clause-is
returns-then-is_again-clause-is c =
    let next = at_next _ _ _ _ _ _ c.loop-other.invariant.1 c.in-Some.ensures.steps in
    rw next.line_is (
      c.in-Some-member_again.ensures,
      sym c.is_member.ensures ∙ c.if-is_member.true,
      c.is_again.ensures c.if-is_again.true,
    )

pub loop-other-preserved : goal.loop-other-preserved
loop-other-preserved c =
    let next = at_next _ _ _ _ _ _ c.loop-other.invariant.1 c.in-Some.ensures.steps in
    (c.loop-other.invariant.0 + 1, next.later)

pub loop-other-preserved-else-is_member : goal.loop-other-preserved-else-is_member
loop-other-preserved-else-is_member c =
    let next = at_next _ _ _ _ _ _ c.loop-other.invariant.1 c.in-Some.ensures.steps in
    (c.loop-other.invariant.0 + 1, next.later)
