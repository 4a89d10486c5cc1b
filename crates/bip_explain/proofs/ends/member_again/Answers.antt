use Rattle.std.proofs.Common.{◌∷◌, [], ◌∙◌, arith}
use Rattle.bip_model.specs.Texts.{words}
use Rattle.bip_explain.proofs.FrontLemmas.{AreTwo, left_more, left_there, two_more}
use Rattle.bip_explain.proofs.ends.member_again.Goals as goal

pub loop-member-init : goal.loop-member-init
loop-member-init c =
    let m = c.in_ok-members in
    let r = m.ensures.left in
    rw c.into_iter-member-iterator.ensures.into_iter_gives (record {
      line = m.ensures.line;
      left = record { front = r.0 ∷ r.1 ∷ []; such = omega arith; split = r.2 };
    })

pub loop-member-preserved : goal.loop-member-preserved
loop-member-preserved c =
    let l = c.loop-member in
    let word = c.in-Some.member.word.now in
    record {
      line = c.in-Some.ensures.steps.0 ∙ l.invariant.line;
      left = left_more AreTwo AreTwo c.args.line.now word (words l.member-iterator.rest.now)
          (words c.next.new.self.rest.now) (two_more word) l.invariant.left
          c.in-Some.ensures.steps.1.0;
    }

pub loop-member-preserved-then-is_text : goal.loop-member-preserved-then-is_text
loop-member-preserved-then-is_text c =
    let l = c.loop-member in
    let word = c.in-Some.member.word.now in
    record {
      line = c.in-Some.ensures.steps.0 ∙ l.invariant.line;
      left = left_more AreTwo AreTwo c.args.line.now word (words l.member-iterator.rest.now)
          (words c.next.new.self.rest.now) (two_more word) l.invariant.left
          c.in-Some.ensures.steps.1.0;
    }

pub returns-then-is_seen : goal.returns-then-is_seen
returns-then-is_seen c =
    let l = c.loop-member in
    let step = rw l.invariant.line at c.in-Some.ensures.steps.1 in (
      step.1,
      left_there AreTwo c.args.line.now c.in-Some.member c.next.new.self.rest.now (words
          l.member-iterator.rest.now) l.invariant.left step.0 step.1 step.2,
    )
