use Rattle.std.proofs.Common.{inl, inr, refl, ◌∙◌, ◌+◌, arith, rules, below_more}
use Rattle.std.proofs.lemmas.Bool.{cases_lt}
use Rattle.bip_explain.proofs.LaterLemmas.{declared_on, undeclared_behind, undeclared_on}
use Rattle.bip_explain.proofs.LineLemmas.{at_end, at_first, at_next, line_zero}
use Rattle.bip_explain.proofs.ScopeLemmas.{stands_next}
use Rattle.bip_explain.proofs.later.later_line_with.Goals as goal
use Rattle.bip_explain.proofs.later.later_line_with.Goals.{else-line-number-via-then-line-number+else-declares_here}
use Rattle.bip_explain.proofs.later.later_line_with.Goals.{else-line-number-via-else-line-number}

pub loop-number-init : goal.loop-number-init
loop-number-init c = (
  1,
  at_first _ _ (c.into_iter-number-iterator.ensures.into_iter_gives ∙ c.of-number-items.ensures),
  λ n h. rw (line_zero c.args.text.now n h) refl,
  λ n h above. undeclared_behind _ n _ _ (line_zero c.args.text.now n h),
)

pub loop-number-preserved : goal.loop-number-preserved
loop-number-preserved c =
    let next = at_next _ _ _ _ _ _ c.loop-number.invariant.1 c.in-Some.ensures.steps in
    let m = c.loop-number.invariant.0 in
    let standing = c.loop-number.invariant.2 in (
      m + 1,
      next.later,
      stands_next c.args.text.now m c.loop-number.standing c.behind-standing.result standing
          (rw (← next.number) (rw next.line_is c.behind-standing.ensures)),
      below_more _ _ c.loop-number.invariant.3 (λ above. elim c.else-line-number.branch [
        | else-line-number-via-then-line-number+else-declares_here w ↦
            undeclared_on c.args.text.now m _ _ c.loop-number.standing standing
            (rw (← next.number) (rw next.line_is (λ is. search (rules, is))))
        | else-line-number-via-else-line-number w ↦
            absurd (omega (arith, w.if-line-number.false, next.number))
      ]),
    )

pub returns-then-declares_here : goal.returns-then-declares_here
returns-then-declares_here c =
    let next = at_next _ _ _ _ _ _ c.loop-number.invariant.1 c.in-Some.ensures.steps in (
      omega arith,
      declared_on c.args.text.now _ _ _ c.loop-number.standing
          (rw next.number c.loop-number.invariant.2) (rw next.line_is (search rules)),
    )

pub returns : goal.returns
returns c =
    let none = at_end _ _ _ c.loop-number.invariant.1 c.in-None.ensures.steps.0 in
    λ n h. elim (cases_lt n c.loop-number.invariant.0) [
      | inl less ↦ c.loop-number.invariant.3 n less h
      | inr more ↦ undeclared_behind _ n _ _ (none n more)
    ]
