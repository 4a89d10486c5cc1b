use Rattle.std.proofs.Common.{◌≡◌, inl, inr, ◌+◌, false, ◌∙◌, below_more, arith, rules}
use Rattle.std.proofs.lemmas.Bool.{cases_lt}
use Rattle.bip_model.specs.Texts.{line_at}
use Rattle.bip_explain.specs.Placed.{said_words}
use Rattle.bip_explain.specs.Twice.{say_same}
use Rattle.bip_explain.proofs.LineLemmas.{at_end, at_first, at_next, line_zero}
use Rattle.bip_explain.proofs.TwiceLemmas.{nothing_same}
use Rattle.bip_explain.proofs.twice.find_said.Goals as goal

pub loop-other-init : goal.loop-other-init
loop-other-init c = (
  1,
  at_first _ _ (c.into_iter-other-iterator.ensures.into_iter_gives ∙ c.of-other-items.ensures),
  λ n h. rw (line_zero c.args.text.now n h) (nothing_same (said_words c.args.line.now)),
)

pub returns-then-number-other-clause-none : goal.returns-then-number-other-clause-none
returns-then-number-other-clause-none c =
    let next = at_next _ _ _ _ _ _ c.loop-other.invariant.1 c.in-Some.ensures.steps in
    λ n h. c.loop-other.invariant.2 n (omega (arith, next.number))

pub returns-then-say_same-clause-is : goal.returns-then-say_same-clause-is
returns-then-say_same-clause-is c =
    let next = at_next _ _ _ _ _ _ c.loop-other.invariant.1 c.in-Some.ensures.steps in
    (omega arith, rw next.line_is (search rules))

pub loop-other-preserved : goal.loop-other-preserved
loop-other-preserved c =
    let next = at_next _ _ _ _ _ _ c.loop-other.invariant.1 c.in-Some.ensures.steps in (
      c.loop-other.invariant.0 + 1,
      next.later,
      below_more _ _ c.loop-other.invariant.2
          (rw (← next.number) (rw next.line_is (search rules))),
    )

pub returns-clause-none : goal.returns-clause-none
returns-clause-none c =
    let none = at_end _ _ _ c.loop-other.invariant.1 c.in-None.ensures.steps.0 in
    λ n h. elim (cases_lt n c.loop-other.invariant.0) as
    (λ _. say_same (said_words c.args.line.now) (said_words (line_at c.args.text.now n))
    ≡ false) [
      | inl less ↦ c.loop-other.invariant.2 n less
      | inr more ↦
          rw (none n more) (nothing_same (said_words c.args.line.now))
    ]
