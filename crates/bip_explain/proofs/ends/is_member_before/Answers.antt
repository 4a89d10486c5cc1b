use Rattle.std.proofs.Common.{◌∷◌, [], sym, ◌∙◌, arith}
use Rattle.bip_model.specs.Texts.{words}
use Rattle.bip_explain.proofs.EndLemmas.{same_member}
use Rattle.bip_explain.proofs.FrontLemmas.{AreTwo, left_more, left_there, two_more}
use Rattle.bip_explain.proofs.ends.is_member_before.Goals as goal

pub loop-before-init : goal.loop-before-init
loop-before-init c =
    let m = c.in-Some in
    let r = m.ensures.left in
    rw c.into_iter-before-iterator.ensures.into_iter_gives (record {
      line = m.ensures.line;
      left = record { front = r.0 ∷ r.1 ∷ []; such = omega arith; split = r.2 };
    })

pub loop-before-preserved : goal.loop-before-preserved
loop-before-preserved c =
    let l = c.loop-before in
    let t = c.in-Some-before in
    record {
      line = t.ensures.steps.0 ∙ l.invariant.line;
      left = left_more AreTwo AreTwo c.args.line.now t.before.word.now
          (words l.before-iterator.rest.now) (words c.next.new.self.rest.now)
          (two_more t.before.word.now) l.invariant.left t.ensures.steps.1.0;
    }

pub returns-then-is_text : goal.returns-then-is_text
returns-then-is_text c = λ _.
    let l = c.loop-before in
    let t = c.in-Some-before in
    let step = rw l.invariant.line at t.ensures.steps.1 in
    let two = left_there AreTwo c.args.line.now t.before c.next.new.self.rest.now
    (words l.before-iterator.rest.now) l.invariant.left step.0 step.1 step.2 in (
      t.before.column,
      c.if-member-before.false,
      same_member c.args.line.now c.args.member.word.now t.before.column t.before.word.now
          (step.1, two) (sym c.is_text.ensures ∙ c.if-is_text.true),
    )
