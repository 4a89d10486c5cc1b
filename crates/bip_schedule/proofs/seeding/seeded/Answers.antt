use Rattle.std.proofs.Common.{◌<◌, ◌^◌, ◌∷◌, [], arith, rules, subst}
use Rattle.bip_core.specs.Worlds.{world_of}
use Rattle.bip_walk.specs.Chance.{generator_of}
use Rattle.bip_partition.specs.Plans.{Planned}
use Rattle.bip_schedule.proofs.DrawLemmas.{drawing_counted, drawing_keeps, drawing_more}
use Rattle.bip_schedule.proofs.DrawLemmas.{drawing_none, drawing_run}
use Rattle.bip_schedule.proofs.DrawnSpellingLemmas.{none_spelled, one_more_spelled}
use Rattle.bip_schedule.specs.Writing.{HaveSpelling}
use Rattle.bip_schedule.proofs.seeding.seeded.Goals as goal

pub loop-init : goal.loop-init
loop-init g c = (
  rw c.in_ok-events.ensures.items (drawing_none c.args.draws.by (generator_of c.args.seed)
      (world_of c.args.world.now) _ _ c.generator_of-words.ensures c.empty-report.ensures.sums
      c.empty-report.ensures.adds_up),
  c.in_ok-events.ensures.len,
  c.in_ok-events.ensures.capacity,
  rw c.in_ok-events.ensures.items (none_spelled _),
)

pub draw_one-requires-clause-room : goal.draw_one-requires-clause-room
draw_one-requires-clause-room g c =
    let counted = drawing_counted _ _ _ _ _ _ _ _ c.loop.invariant.0 in
    let small : c.args.draws.count < 2 ^ 32 = search rules in
    omega (arith, counted, small, c.loop-test.true)

pub returns-clause-run : goal.returns-clause-run
returns-clause-run g c = drawing_run _ _ _ _ _ _ _ _ c.loop.invariant.0

pub returns-in-None-clause-run : goal.returns-in-None-clause-run
returns-in-None-clause-run g c =
    rw (c.in-None.ensures.same, c.in-None.ensures.report)
    (drawing_run _ _ _ _ _ _ _ _ c.loop.invariant.0)

pub loop-preserved : goal.loop-preserved
loop-preserved g c = (
  rw c.push_reserved.ensures.items (drawing_more _ _ _ _
      (world_of c.loop.world) _ _ _ _ _ _ _ c.loop.invariant.0 c.in-Some.ensures.drawn
      c.in-Some.ensures.word c.in-Some.ensures.done c.draw_one.ensures.adds_up),
  (let more = c.push_reserved.ensures.len in omega (arith, more, c.loop.invariant.1)),
  (let same = c.push_reserved.ensures.capacity in omega (arith, same, c.loop.invariant.2)),
  rw c.push_reserved.ensures.items (one_more_spelled _ _ _ c.loop.invariant.3
      (subst (λ (p : Planned). HaveSpelling p (c.in-Some.event ∷ []))
      (drawing_keeps _ _ _ _ _ _ _ _ c.loop.invariant.0) c.in-Some.ensures.spelled)),
)
