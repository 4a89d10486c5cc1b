use Rattle.std.proofs.Common.{◌+◌, arith}
use Rattle.bip_core.specs.Worlds.{world_of}
use Rattle.bip_schedule.specs.Busy.{asked_at, none_below}
use Rattle.bip_schedule.proofs.BusyLemmas.{all_below, few_work, none_between, one_less, one_more}
use Rattle.bip_schedule.proofs.busy.count_asked.Goals as goal
use Rattle.bip_schedule.proofs.busy.count_asked.Goals.{else-has_work, then-has_work}

pub loop-number-init : goal.loop-number-init
loop-number-init g c = (
  none_between _ _ 0 _ 0 (omega arith) none_below
      (λ i low high. c.idle_until.ensures.idle i low (omega (arith, high, c.min-number.ensures))),
  omega (arith, c.min-number.ensures),
)

pub overflow_add-busy : goal.overflow_add-busy
overflow_add-busy g c =
    omega (
      arith,
      few_work _ _ _ _ c.loop-number.invariant.0,
      c.loop-number-test.true,
      c.loop-number.auto.number-fits,
    )

pub loop-number-preserved : goal.loop-number-preserved
loop-number-preserved g c = (
  none_between _ _ (c.loop-number.number + 1) _ c.if-has_work.busy
      (omega (
        arith,
        c.min-number-in-loop-number.ensures,
        c.loop-number-test.true,
        c.idle_until-in-loop-number.ensures.onward,
      ))
      (elim c.if-has_work.branch [
        | then-has_work t ↦ rw t.busy-is (one_more _ _ _ _ c.asked_at.result
            c.loop-number.invariant.0 c.asked_at.ensures.event
            (c.has_work.ensures.work t.if-has_work.true))
        | else-has_work t ↦ rw t.busy-is (one_less _ _ _ _ c.asked_at.result
            c.loop-number.invariant.0 c.asked_at.ensures.event
            (c.has_work.ensures.none t.if-has_work.false))
      ])
      (λ i low high. c.idle_until-in-loop-number.ensures.idle i low
      (omega (arith, high, c.min-number-in-loop-number.ensures))),
  omega (arith, c.min-number-in-loop-number.ensures),
)

pub returns : goal.returns
returns g c =
    all_below (world_of c.args.world.now)
    (asked_at c.args.world.now.plan c.args.stations c.args.kind) c.loop-number.number _
    c.loop-number.busy
    (omega (
      arith,
      c.loop-number-test.false,
      c.loop-number.invariant.1,
      c.asked_count-count.ensures,
    )) c.loop-number.invariant.0
