use Rattle.std.proofs.Common.{◌≡◌, true, false, sym, ◌∙◌, ◌+◌, arith, rules}
use Rattle.std.proofs.lemmas.Bool.{false≢true}
use Rattle.bip_explain.specs.Declarations.{begins_component}
use Rattle.bip_model.specs.Texts.{line_at}
use Rattle.bip_explain.specs.Placed.{said_words}
use Rattle.bip_explain.specs.Twice.{leave_same}
use Rattle.bip_explain.proofs.LineLemmas.{at_end, at_first, at_next, line_zero}
use Rattle.bip_explain.proofs.TwiceLemmas.{found_first, found_last, found_more, found_there}
use Rattle.bip_explain.proofs.TwiceLemmas.{leaves_no_component, leaves_not, none_last, none_still}
use Rattle.bip_explain.proofs.TwiceLemmas.{none_there, over_begun, over_first}
use Rattle.bip_explain.proofs.twice.transition_before.Goals as goal
use Rattle.bip_explain.proofs.twice.transition_before.Invariants.{LeavesSame}

pub loop-other-init : goal.loop-other-init
loop-other-init c = (
  1,
  at_first _ _ (c.into_iter-other-iterator.ensures.into_iter_gives ∙ c.of-other-items.ensures),
  tt,
  over_first (LeavesSame c.args.text.now c.args.line.now) c.args.text.now c.args.number
      (leaves_not c.args.text.now c.args.line.now 0 (line_zero c.args.text.now 0 (omega arith))),
)

pub returns-then-number-other-clause-some : goal.returns-then-number-other-clause-some
returns-then-number-other-clause-some c =
    let next = at_next _ _ _ _ _ _ c.loop-other.invariant.1 c.in-Some.ensures.steps in
    found_there (LeavesSame c.args.text.now c.args.line.now) c.args.text.now c.args.number
    c.loop-other.invariant.0 c.loop-other.found
    (omega (arith, next.number)) c.loop-other.invariant.2

pub returns-then-number-other-clause-none : goal.returns-then-number-other-clause-none
returns-then-number-other-clause-none c =
    let next = at_next _ _ _ _ _ _ c.loop-other.invariant.1 c.in-Some.ensures.steps in
    none_there (LeavesSame c.args.text.now c.args.line.now) c.args.text.now c.args.number
    c.loop-other.invariant.0 c.loop-other.found
    (omega (arith, next.number)) c.loop-other.invariant.3

pub loop-other-preserved-then-begins_component : goal.loop-other-preserved-then-begins_component
loop-other-preserved-then-begins_component c =
    let next = at_next _ _ _ _ _ _ c.loop-other.invariant.1 c.in-Some.ensures.steps in
    let begins : begins_component (said_words (line_at c.args.text.now c.loop-other.invariant.0))
    ≡ true = rw (← next.number) (rw next.line_is (search rules)) in (
      c.loop-other.invariant.0 + 1,
      next.later,
      tt,
      over_begun (LeavesSame c.args.text.now c.args.line.now) c.args.text.now c.args.number
          c.loop-other.invariant.0 (omega (arith, next.number)) begins
          (leaves_no_component c.args.text.now c.args.line.now c.loop-other.invariant.0 begins),
    )

pub loop-other-preserved-then-leave_same : goal.loop-other-preserved-then-leave_same
loop-other-preserved-then-leave_same c =
    let next = at_next _ _ _ _ _ _ c.loop-other.invariant.1 c.in-Some.ensures.steps in (
      c.loop-other.invariant.0 + 1,
      next.later,
      rw (c.unwrap_or.ensures, next.number) (found_first
          (LeavesSame c.args.text.now c.args.line.now) c.args.text.now c.args.number
          c.loop-other.invariant.0 c.loop-other.found (omega (arith, next.number))
          (rw (← next.number) (rw next.line_is (search rules))) c.loop-other.invariant.2
          (rw (← next.number) (rw next.line_is (search rules)))),
      tt,
    )

pub loop-other-preserved : goal.loop-other-preserved
loop-other-preserved c =
    let next = at_next _ _ _ _ _ _ c.loop-other.invariant.1 c.in-Some.ensures.steps in
    let other : leave_same (said_words c.args.line.now)
    (said_words (line_at c.args.text.now c.loop-other.invariant.0)) ≡ false =
    rw (← next.number) (rw next.line_is (search rules)) in (
      c.loop-other.invariant.0 + 1,
      next.later,
      found_more (LeavesSame c.args.text.now c.args.line.now) c.args.text.now c.args.number
          c.loop-other.invariant.0 c.loop-other.found c.loop-other.invariant.2
          (rw (← next.number) (rw next.line_is (search rules))),
      none_still (LeavesSame c.args.text.now c.args.line.now) c.args.text.now c.args.number
          c.loop-other.invariant.0 c.loop-other.found c.loop-other.invariant.3
          (λ same. false≢true (sym other ∙ same)),
    )

pub returns-clause-some : goal.returns-clause-some
returns-clause-some c =
    found_last (LeavesSame c.args.text.now c.args.line.now) c.args.text.now c.args.number
    c.loop-other.invariant.0 c.loop-other.found
    (at_end _ _ _ c.loop-other.invariant.1 c.in-None.ensures.steps.0) c.loop-other.invariant.2

pub returns-clause-none : goal.returns-clause-none
returns-clause-none c =
    none_last (LeavesSame c.args.text.now c.args.line.now) c.args.text.now c.args.number
    c.loop-other.invariant.0 c.loop-other.found
    (λ n above. leaves_not c.args.text.now c.args.line.now n
    (at_end _ _ _ c.loop-other.invariant.1 c.in-None.ensures.steps.0 n above))
    c.loop-other.invariant.3
