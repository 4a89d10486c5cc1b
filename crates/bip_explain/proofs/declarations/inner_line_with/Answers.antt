use Rattle.std.proofs.Common.{◌≡◌, true, false, sym, ◌∙◌, ◌+◌, arith, rules}
use Rattle.std.proofs.lemmas.Bool.{false≢true}
use Rattle.bip_explain.specs.Declarations.{begins_component, declares}
use Rattle.bip_model.specs.Texts.{line_at}
use Rattle.bip_explain.specs.Placed.{said_words}
use Rattle.bip_explain.proofs.LineLemmas.{at_end, at_first, at_next, line_zero}
use Rattle.bip_explain.proofs.TwiceLemmas.{declares_no_component, declares_not, found_last}
use Rattle.bip_explain.proofs.TwiceLemmas.{found_more, found_there, none_last, none_still}
use Rattle.bip_explain.proofs.TwiceLemmas.{none_there, over_begun, over_first}
use Rattle.bip_explain.proofs.declarations.inner_line_with.Goals as goal
use Rattle.bip_explain.proofs.declarations.inner_line_with.Invariants.{Declares}

pub loop-number-init : goal.loop-number-init
loop-number-init c = (
  1,
  at_first _ _ (c.into_iter-number-iterator.ensures.into_iter_gives ∙ c.of-number-items.ensures),
  tt,
  over_first (Declares c.args.text.now c.args.name.now) c.args.text.now c.args.line
      (declares_not c.args.text.now c.args.name.now 0 (line_zero c.args.text.now 0 (omega arith))),
)

pub returns-then-line-number-clause-some : goal.returns-then-line-number-clause-some
returns-then-line-number-clause-some c =
    let next = at_next _ _ _ _ _ _ c.loop-number.invariant.1 c.in-Some.ensures.steps in
    found_there (Declares c.args.text.now c.args.name.now) c.args.text.now c.args.line
    c.loop-number.invariant.0 c.loop-number.found
    (omega (arith, next.number)) c.loop-number.invariant.2

pub returns-then-line-number-clause-none : goal.returns-then-line-number-clause-none
returns-then-line-number-clause-none c =
    let next = at_next _ _ _ _ _ _ c.loop-number.invariant.1 c.in-Some.ensures.steps in
    none_there (Declares c.args.text.now c.args.name.now) c.args.text.now c.args.line
    c.loop-number.invariant.0 c.loop-number.found
    (omega (arith, next.number)) c.loop-number.invariant.3

pub loop-number-preserved-then-begins_component : goal.loop-number-preserved-then-begins_component
loop-number-preserved-then-begins_component c =
    let next = at_next _ _ _ _ _ _ c.loop-number.invariant.1 c.in-Some.ensures.steps in
    let begins : begins_component (said_words (line_at c.args.text.now c.loop-number.invariant.0))
    ≡ true = rw (← next.number) (rw next.line_is (search rules)) in (
      c.loop-number.invariant.0 + 1,
      next.later,
      tt,
      over_begun (Declares c.args.text.now c.args.name.now) c.args.text.now c.args.line
          c.loop-number.invariant.0 (omega (arith, next.number)) begins
          (declares_no_component c.args.text.now c.args.name.now c.loop-number.invariant.0 begins),
    )

pub loop-number-preserved-then-declares : goal.loop-number-preserved-then-declares
loop-number-preserved-then-declares c =
    let next = at_next _ _ _ _ _ _ c.loop-number.invariant.1 c.in-Some.ensures.steps in (
      c.loop-number.invariant.0 + 1,
      next.later,
      record {
        before = omega arith;
        has = rw next.line_is (search rules);
        alone = λ k above below. absurd (omega (arith, next.number));
      },
      tt,
    )

pub loop-number-preserved : goal.loop-number-preserved
loop-number-preserved c =
    let next = at_next _ _ _ _ _ _ c.loop-number.invariant.1 c.in-Some.ensures.steps in
    let other : declares c.args.name.now (said_words
    (line_at c.args.text.now c.loop-number.invariant.0)) ≡ false =
    rw (← next.number) (rw next.line_is (search rules)) in (
      c.loop-number.invariant.0 + 1,
      next.later,
      found_more (Declares c.args.text.now c.args.name.now) c.args.text.now c.args.line
          c.loop-number.invariant.0 c.loop-number.found c.loop-number.invariant.2
          (rw (← next.number) (rw next.line_is (search rules))),
      none_still (Declares c.args.text.now c.args.name.now) c.args.text.now c.args.line
          c.loop-number.invariant.0 c.loop-number.found c.loop-number.invariant.3
          (λ is. false≢true (sym other ∙ is)),
    )

pub returns-clause-some : goal.returns-clause-some
returns-clause-some c =
    found_last (Declares c.args.text.now c.args.name.now) c.args.text.now c.args.line
    c.loop-number.invariant.0 c.loop-number.found
    (at_end _ _ _ c.loop-number.invariant.1 c.in-None.ensures.steps.0) c.loop-number.invariant.2

pub returns-clause-none : goal.returns-clause-none
returns-clause-none c =
    none_last (Declares c.args.text.now c.args.name.now) c.args.text.now c.args.line
    c.loop-number.invariant.0 c.loop-number.found
    (λ n above. declares_not c.args.text.now c.args.name.now n
    (at_end _ _ _ c.loop-number.invariant.1 c.in-None.ensures.steps.0 n above))
    c.loop-number.invariant.3
