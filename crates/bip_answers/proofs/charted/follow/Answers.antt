use Rattle.std.proofs.Common.{◌∙◌, [], arith, refl}
use Rattle.bip_answers.proofs.ChartLemmas.{drawn-below, drawn-end, drawn-fault, drawn-more}
use Rattle.bip_answers.proofs.ChartLemmas.{drawn-none, shows_on}
use Rattle.bip_answers.proofs.charted.follow.Goals as goal

pub loop-number-init : goal.loop-number-init
loop-number-init c =
    record {
      on = record { model = refl; parted = refl; shows = refl };
      drawn = λ base start. (
        [],
        rw c.into_iter-number-iterator.ensures.into_iter_gives
            (rw c.of-number-items.ensures
            (drawn-none base c.args.trace.now c.args.chart.now start)),
      );
    }

pub take_line-requires : goal.take_line-requires
take_line-requires c =
    let so = c.loop-number.invariant.drawn c.requires.0 c.requires.1 in
    let below = drawn-below _ _ _ _ _ _ _ _ so.1 c.in-Some.ensures.steps in
    grind arith

pub loop-number-preserved : goal.loop-number-preserved
loop-number-preserved c =
    record {
      on = shows_on _ _ _ c.loop-number.chart c.take_line.new.chart
          c.loop-number.invariant.on c.in_ok-taken.ensures.on;
      drawn = λ base start.
          let so = c.loop-number.invariant.drawn base start in
          drawn-more base _ _ _ _ _ so.0 c.loop-number.chart c.take_line.new.chart _ so.1
          c.in-Some.ensures.steps c.in_ok-taken.ensures.on.model
          (rw c.in_default.is at (c.in_ok-taken.ensures.drawn base so.0 so.1.drawn));
    }

pub returns-in-Err-clause-on : goal.returns-in-Err-clause-on
returns-in-Err-clause-on c =
    shows_on _ _ _ c.loop-number.chart c.take_line.new.chart c.loop-number.invariant.on
    c.in_ok-taken.ensures.on

pub returns-in-Err-clause-drawn : goal.returns-in-Err-clause-drawn
returns-in-Err-clause-drawn c = λ base start.
    let so = c.loop-number.invariant.drawn base start in
    let takes = rw c.in-Err.is at (c.in_ok-taken.ensures.drawn base so.0 so.1.drawn) in (
      so.0,
      drawn-fault base _ _ _ _ _ so.0 c.loop-number.chart c.take_line.new.chart
          c.in-Err.fault so.1 c.in-Some.ensures.steps c.in_ok-taken.ensures.on.model takes,
      takes.1,
    )

pub returns-clause-drawn : goal.returns-clause-drawn
returns-clause-drawn c = λ base start.
    let so = c.loop-number.invariant.drawn base start in
    let ends = drawn-end base _ _ so.0 c.loop-number.chart so.1 c.in-None.ensures.steps.0 in
    (so.0, (ends.0, c.count.ensures ∙ ends.1), so.1.drawn)
