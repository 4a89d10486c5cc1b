use Rattle.std.proofs.Common.{◌+◌, arith, rules}
use Rattle.bip_explain.proofs.LineLemmas.{at_next}
use Rattle.bip_explain.proofs.ends.is_parted_before.Goals as goal

pub returns-then-is_member : goal.returns-then-is_member
returns-then-is_member c =
    let next = at_next _ _ _ _ _ _ c.loop-number.invariant.1 c.in-Some.ensures.steps in
    λ _. (c.in-Some.number, omega arith, rw next.line_is (search rules))

pub loop-number-preserved : goal.loop-number-preserved
loop-number-preserved c =
    let next = at_next _ _ _ _ _ _ c.loop-number.invariant.1 c.in-Some.ensures.steps in
    (c.loop-number.invariant.0 + 1, next.later)
