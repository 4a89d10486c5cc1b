use Rattle.std.proofs.Common.{◌≡◌, inl, inr, false, refl, ◌∙◌, ◌+◌, arith, rules, below_more}
use Rattle.std.proofs.lemmas.Bool.{cases_lt}
use Rattle.bip_explain.specs.Declarations.{begins_component}
use Rattle.bip_model.specs.Texts.{line_at}
use Rattle.bip_explain.specs.Placed.{said_words}
use Rattle.bip_explain.proofs.LineLemmas.{at_end, at_first, at_next, line_zero}
use Rattle.bip_explain.proofs.ends.has_component.Goals as goal

pub loop-number-init : goal.loop-number-init
loop-number-init c = (
  1,
  at_first _ _ (c.into_iter-number-iterator.ensures.into_iter_gives ∙ c.of-number-items.ensures),
  λ n h. rw (line_zero c.args.text.now n h) refl,
)

pub returns-then-last-number-clause-none : goal.returns-then-last-number-clause-none
returns-then-last-number-clause-none c =
    let next = at_next _ _ _ _ _ _ c.loop-number.invariant.1 c.in-Some.ensures.steps in
    λ _ n h. c.loop-number.invariant.2 n (omega (arith, next.number))

pub returns-then-begins_component-clause-some : goal.returns-then-begins_component-clause-some
returns-then-begins_component-clause-some c =
    let next = at_next _ _ _ _ _ _ c.loop-number.invariant.1 c.in-Some.ensures.steps in
    λ _. (c.in-Some.number, omega arith, rw next.line_is (search rules))

pub loop-number-preserved : goal.loop-number-preserved
loop-number-preserved c =
    let next = at_next _ _ _ _ _ _ c.loop-number.invariant.1 c.in-Some.ensures.steps in (
      c.loop-number.invariant.0 + 1,
      next.later,
      below_more _ _ c.loop-number.invariant.2
          (rw (← next.number) (rw next.line_is (search rules))),
    )

pub returns-clause-none : goal.returns-clause-none
returns-clause-none c =
    let none = at_end _ _ _ c.loop-number.invariant.1 c.in-None.ensures.steps.0 in
    λ _ n h. elim (cases_lt n c.loop-number.invariant.0) as
    (λ _. begins_component (said_words (line_at c.args.text.now n)) ≡ false)
    [ inl less ↦ c.loop-number.invariant.2 n less | inr more ↦ rw (none n more) refl ]
