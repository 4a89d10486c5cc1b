use Rattle.std.proofs.Common.{sym, ◌∙◌}
use Rattle.bip_explain.proofs.TwiceLemmas.{is_target}
use Rattle.bip_explain.proofs.twice.find_target_again.Goals as goal

pub returns-then-is_target_before-clause-is : goal.returns-then-is_target_before-clause-is
returns-then-is_target_before-clause-is c = λ text number.
    let l = c.loop-placed in
    let before = rw c.in-Some-before.is at l.invariant.before in (
      is_target c.args.line.now l.placed-iterator.rest.now c.in-Some.placed.word.now
          c.next.new.self.rest.now c.in-Some-before.target before c.in-Some.ensures.steps.1.0
          (sym c.is_text.ensures
          ∙ c.if-is_text.true),
      c.is_target_before.ensures c.if-is_target_before.true,
    )

pub loop-placed-preserved : goal.loop-placed-preserved
loop-placed-preserved c =
    let l = c.loop-placed in
    let step = rw l.invariant.line at c.in-Some.ensures.steps.1 in
    record { line = c.in-Some.ensures.steps.0 ∙ l.invariant.line; before = (step.1, step.2) }
