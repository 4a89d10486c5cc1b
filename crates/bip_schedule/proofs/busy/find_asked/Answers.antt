use Rattle.std.proofs.Common.{◌≤◌, ◌+◌, arith}
use Rattle.std.proofs.lemmas.Bool.Decides.{nat_tests}
use Rattle.bip_core.specs.Worlds.{world_of}
use Rattle.bip_schedule.specs.Busy.{AreWithoutWork, asked_at, none_below}
use Rattle.bip_schedule.proofs.BusyLemmas.{all_below, found_at, none_between, one_less, one_more}
use Rattle.bip_schedule.proofs.busy.find_asked.Goals as goal
use Rattle.bip_schedule.proofs.busy.find_asked.Goals.{else-has_work, then-has_work+else-left-eq0}

pub loop-number-init : goal.loop-number-init
loop-number-init g c = (
  0,
  none_between _ _ 0 _ 0 (omega arith) none_below
      (λ i low high. c.idle_until.ensures.idle i low (omega (arith, high, c.min-number.ensures))),
  omega arith,
  omega (arith, c.min-number.ensures),
)

pub loop-number-preserved : goal.loop-number-preserved
loop-number-preserved g c =
    let (found, so, sum, within) = c.loop-number.invariant in
    let onward : c.loop-number.number + 1 ≤ c.min-number-in-loop-number.result = omega (
      arith,
      c.min-number-in-loop-number.ensures,
      c.loop-number-test.true,
      c.idle_until-in-loop-number.ensures.onward,
    ) in
    let none : AreWithoutWork (world_of c.args.world.now)
    (asked_at c.args.world.now.plan c.args.stations c.args.kind) (c.loop-number.number + 1)
    c.min-number-in-loop-number.result = λ i low high. c.idle_until-in-loop-number.ensures.idle i low
    (omega (arith, high, c.min-number-in-loop-number.ensures)) in
    elim c.if-has_work.branch [
      | then-has_work+else-left-eq0 t ↦ (
        found + 1,
        none_between _ _ (c.loop-number.number + 1) _ (found + 1) onward
            (one_more _ _ _ _ c.asked_at-event.result so c.asked_at-event.ensures.event
            (c.has_work.ensures.work t.if-has_work.true)) none,
        grind (arith, nat_tests, t.left-is, sum, t.if-left-eq0.false),
        omega (arith, c.min-number-in-loop-number.ensures),
      )
      | else-has_work t ↦ (
        found,
        none_between _ _ (c.loop-number.number + 1) _ found onward
            (one_less _ _ _ _ c.asked_at-event.result so c.asked_at-event.ensures.event
            (c.has_work.ensures.none t.if-has_work.false)) none,
        omega (arith, t.left-is, sum),
        omega (arith, c.min-number-in-loop-number.ensures),
      )
    ]

pub returns-then-left-eq0-clause-some : goal.returns-then-left-eq0-clause-some
returns-then-left-eq0-clause-some g c =
    found_at _ _ _ c.loop-number.number c.loop-number.invariant.0 _ c.asked_at-event.result
    (omega (arith, c.loop-number-test.true, c.asked_count-count.ensures))
    c.loop-number.invariant.1
    (grind (arith, nat_tests, c.loop-number.invariant.2, c.if-left-eq0.true))
    c.asked_at-event.ensures.event (c.has_work.ensures.work c.if-has_work.true)

pub returns-clause-none : goal.returns-clause-none
returns-clause-none g c = record {
  found = c.loop-number.invariant.0;
  all = all_below (world_of c.args.world.now)
      (asked_at c.args.world.now.plan c.args.stations c.args.kind) c.loop-number.number _ _
      (omega (
        arith,
        c.loop-number-test.false,
        c.loop-number.invariant.3,
        c.asked_count-count.ensures,
      )) c.loop-number.invariant.1;
  few = omega (arith, c.loop-number.invariant.2);
}
