use Rattle.std.proofs.Common.{◌+◌, codes}
use Rattle.bip_explain.proofs.LineLemmas.{at_next}
use Rattle.bip_explain.proofs.UnknownLemmas.{declared_more}
use Rattle.bip_explain.proofs.declarations.Declared.before.Goals as goal

pub loop-number-preserved-in-Continue-1 : goal.loop-number-preserved-in-Continue-1
loop-number-preserved-in-Continue-1 c =
    let l = c.loop-number in
    let next = at_next _ _ _ _ _ _ l.invariant.at.1 c.in-Some.ensures.steps in
    record {
      at = (l.invariant.at.0 + 1, next.later);
      all = declared_more c.args.text.now c.in-Some.bytes.now c.args.line c.in-Some.number
          c.in-Some-two_words.keyword.now c.in-Some-two_words.word.now
          (codes "interaction") l.declared.interactions c.take.new.self.interactions l.invariant.all
          c.if-line-number.false next.line_is c.in-Some-two_words.ensures c.in_ok-take.ensures;
    }

pub loop-number-preserved : goal.loop-number-preserved
loop-number-preserved c =
    let l = c.loop-number in
    let next = at_next _ _ _ _ _ _ l.invariant.at.1 c.in-Some.ensures.steps in
    record { at = (l.invariant.at.0 + 1, next.later); all = l.invariant.all }
