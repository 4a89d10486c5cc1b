use Rattle.std.proofs.Common.{◌∷◌, [], true, refl, sym, ◌∙◌}
use Rattle.bip_model.specs.Texts.{words}
use Rattle.bip_explain.proofs.FrontLemmas.{HeadSo, head_first, head_word, left_more, left_there}
use Rattle.bip_explain.proofs.twice.find_party_again.Goals as goal

pub loop-placed-init : goal.loop-placed-init
loop-placed-init c =
    let r = c.requires in
    rw c.into_iter-placed-iterator.ensures.into_iter_gives (record {
      line = refl;
      left = record { front = r.0 ∷ r.1 ∷ []; such = head_first r.0 r.1; split = r.2 };
    })

pub loop-placed-preserved : goal.loop-placed-preserved
loop-placed-preserved c =
    let l = c.loop-placed in
    let word = c.in-Some.placed.word.now in
    record {
      line = c.in-Some.ensures.steps.0 ∙ l.invariant.line;
      left = left_more (HeadSo true) (HeadSo true) c.args.words.line.now word
          (words l.placed-iterator.rest.now) (words c.next.new.self.rest.now)
          (head_word true word (sym c.begins_list.ensures ∙ c.if-begins_list.false))
          l.invariant.left c.in-Some.ensures.steps.1.0;
    }

pub returns-then-is_party_again-clause-is : goal.returns-then-is_party_again-clause-is
returns-then-is_party_again-clause-is c = λ text number.
    let l = c.loop-placed in
    let step = rw l.invariant.line at c.in-Some.ensures.steps.1 in
    let head = left_there (HeadSo true) c.args.words.line.now c.in-Some.placed
    c.next.new.self.rest.now (words l.placed-iterator.rest.now) l.invariant.left step.0 step.1
    step.2 in
    (step.1, head.so, c.is_party_again.ensures c.if-is_party_again.true)
