use Rattle.std.proofs.Common.{arith, refl, ◌∙◌}
use Rattle.bip_model.specs.Texts.{words}
use Rattle.bip_explain.proofs.LimitLemmas.{counted-none, counted_more, over_limit, short_more}
use Rattle.bip_explain.proofs.limits.find_long.Goals as goal

pub loop-placed-init : goal.loop-placed-init
loop-placed-init c = rw c.into_iter-placed-iterator.ensures.into_iter_gives (record {
  line = refl;
  within = record { participants = omega arith; parts = omega arith; terms = omega arith };
  counted = λ front behind plain. counted-none c.args.left.line.now front
      (words c.args.left.rest.now) _ behind plain refl refl;
  short = λ all. all;
})

pub loop-placed-preserved : goal.loop-placed-preserved
loop-placed-preserved c =
    let l = c.loop-placed in
    record {
      line = c.in-Some.ensures.steps.0 ∙ l.invariant.line;
      within = c.in_default.ensures.none;
      counted = λ front behind plain.
          rw c.with-counted.ensures (counted_more c.args.left.line.now l.counted
          c.in-Some.placed.word.now (words l.placed-iterator.rest.now)
          (words c.next.new.self.rest.now)
          (l.invariant.counted front behind plain) c.in-Some.ensures.steps.1.0);
      short = λ rest. l.invariant.short (rw c.in-Some.ensures.steps.1.0
          (short_more l.counted c.with-counted.result c.in-Some.placed.word.now
          (words c.next.new.self.rest.now) c.with-counted.ensures c.in_default.ensures.none rest));
    }

pub returns-in-Some-passed-clause-some : goal.returns-in-Some-passed-clause-some
returns-in-Some-passed-clause-some c = λ text number front behind plain.
    let l = c.loop-placed in
    let steps = rw l.invariant.line at c.in-Some.ensures.steps.1 in
    over_limit c.args.left.line.now c.in-Some.placed l.counted c.next.new.self.rest.now
    c.in-Some-passed.limit.now (words l.placed-iterator.rest.now)
    (l.invariant.counted front behind plain) l.invariant.within steps.0 steps.1 steps.2
    (rw c.with-counted.ensures at c.in-Some-passed.ensures.some)

pub returns-clause-none : goal.returns-clause-none
returns-clause-none c = c.loop-placed.invariant.short (rw c.in-None.ensures.steps.1.0 tt)
