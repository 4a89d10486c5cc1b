use Rattle.std.proofs.Common.{sym, ◌∙◌}
use Rattle.bip_explain.proofs.TwiceLemmas.{is_target, same_target}
use Rattle.bip_explain.proofs.twice.is_target_before.Goals as goal

pub returns-then-is_text-2 : goal.returns-then-is_text-2
returns-then-is_text-2 c = λ _.
    let l = c.loop-placed in
    let other = c.in-Some-before.other in
    let before = rw c.in-Some-before.is at l.invariant.before in
    let at = is_target c.args.line.now l.placed-iterator.rest.now c.in-Some.placed.word.now
    c.next.new.self.rest.now other before c.in-Some.ensures.steps.1.0
    (sym c.is_text.ensures ∙ c.if-is_text.true) in (
      other.column,
      c.if-other-target.true,
      same_target c.args.line.now c.args.target.word.now other.column other.word.now at
          (sym c.is_text-then-other-target.ensures ∙ c.if-is_text-2.true),
    )

pub loop-placed-preserved : goal.loop-placed-preserved
loop-placed-preserved c =
    let l = c.loop-placed in
    let step = rw l.invariant.line at c.in-Some.ensures.steps.1 in
    record { line = c.in-Some.ensures.steps.0 ∙ l.invariant.line; before = (step.1, step.2) }
