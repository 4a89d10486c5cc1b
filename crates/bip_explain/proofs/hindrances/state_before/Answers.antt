use Rattle.bip_explain.proofs.HindranceLemmas.{state-end, state-more, state-stopped}
use Rattle.bip_explain.proofs.hindrances.state_before.Goals as goal

pub returns-then-line-number-clause-before : goal.returns-then-line-number-clause-before
returns-then-line-number-clause-before c = λ base. state-stopped _ _ _ _ _ _ _ _ _
    (c.loop-number.invariant.so_far base) c.in-Some.ensures.steps c.if-line-number.true

pub loop-number-preserved : goal.loop-number-preserved
loop-number-preserved c = record {
  of_model = c.go_on.ensures.of_model c.loop-number.invariant.of_model;
  so_far = λ base. state-more _ _ _ _ _ _ _ _ _ _
      (c.loop-number.invariant.so_far base) c.in-Some.ensures.steps c.if-line-number.false
      c.go_on.ensures.led;
}

pub returns-clause-before : goal.returns-clause-before
returns-clause-before c = λ base. state-end _ _ _ _ _ _
    (c.loop-number.invariant.so_far base) c.in-None.ensures.steps.0
