use Rattle.std.proofs.Common.{sym, ◌∙◌}
use Rattle.bip_model.specs.Texts.{words}
use Rattle.bip_explain.proofs.FormLemmas.{ended, gone-all, gone-more, misplaced}
use Rattle.bip_explain.proofs.forms.find_word.Goals as goal

pub returns-in-None-after-clause-some : goal.returns-in-None-after-clause-some
returns-in-None-after-clause-some c = λ front behind.
    let l = c.loop-placed in
    let taken = rw l.invariant.line at c.in-Some.ensures.steps.1 in
    misplaced c.args.spelling c.args.start l.expected front (words c.args.left.rest.now)
    (words l.placed-iterator.rest.now) c.args.left.line.now c.args.left.rest.now
    c.next.new.self.rest.now l.yielded c.in-Some.placed
    behind l.invariant.gone taken.0 taken.1 taken.2 (sym c.after.ensures ∙ c.in-None-after.is)

pub returns-clause-some : goal.returns-clause-some
returns-clause-some c = λ front behind.
    let l = c.loop-placed in
    ended c.args.spelling c.args.start l.expected front (words c.args.left.rest.now)
    (words l.placed-iterator.rest.now) c.args.left.line.now c.end-end.result l.yielded
    behind l.invariant.gone c.in-None.ensures.steps.1.0 c.end-end.ensures
    (sym c.can_end.ensures ∙ c.if-can_end.false)

pub loop-placed-preserved : goal.loop-placed-preserved
loop-placed-preserved c =
    let l = c.loop-placed in
    record {
      line = c.in-Some.ensures.steps.0 ∙ l.invariant.line;
      gone = gone-more c.args.spelling c.args.start l.expected c.in-Some-after.next
          (words c.args.left.rest.now) (words l.placed-iterator.rest.now)
          (words c.next.new.self.rest.now) l.yielded c.in-Some.placed l.invariant.gone
          c.in-Some.ensures.steps.1.0 (sym c.after.ensures ∙ c.in-Some-after.is);
    }

pub returns-then-can_end-clause-none : goal.returns-then-can_end-clause-none
returns-then-can_end-clause-none c =
    let l = c.loop-placed in
    gone-all c.args.spelling c.args.start l.expected (words c.args.left.rest.now)
    (words l.placed-iterator.rest.now) l.yielded l.invariant.gone c.in-None.ensures.steps.1.0
    (sym c.can_end.ensures ∙ c.if-can_end.true)
