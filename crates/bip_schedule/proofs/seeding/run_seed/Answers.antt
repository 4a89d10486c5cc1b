use Rattle.std.proofs.Common.{[], ◌∷◌, ◌++◌, ◌<◌, ◌^◌, ap, arith, rules}
use Rattle.bip_core.specs.Worlds.{world_of}
use Rattle.bip_core.specs.declared.runs.Report.{Report}
use Rattle.bip_walk.specs.Chance.{generator_of}
use Rattle.bip_schedule.proofs.DrawLemmas.{drawing_counted, drawing_more, drawing_none}
use Rattle.bip_schedule.proofs.seeding.run_seed.Goals as goal

pub loop-init : goal.loop-init
loop-init g c = (
  [],
  drawing_none c.args.draws.by (generator_of c.args.seed) (world_of c.args.world.now) _ _
      c.generator_of-words.ensures c.empty-report.ensures.sums c.empty-report.ensures.adds_up,
)

pub draw_one-requires-clause-room : goal.draw_one-requires-clause-room
draw_one-requires-clause-room g c =
    let counted = drawing_counted _ _ _ _ _ _ _ _ c.loop.invariant.1 in
    let small : c.args.draws.count < 2 ^ 32 = search rules in
    omega (arith, counted, small, c.loop-test.true)

pub loop-preserved : goal.loop-preserved
loop-preserved g c = (
  c.loop.invariant.0 ++ c.in-Some.field-0 ∷ [],
  drawing_more _ _ _ _ (world_of c.loop.world) _ _ _ _ _ _ _ c.loop.invariant.1
      c.in-Some.ensures.drawn c.in-Some.ensures.word c.in-Some.ensures.done
      c.draw_one.ensures.adds_up,
)

pub returns-in_default-clause-counted : goal.returns-in_default-clause-counted
returns-in_default-clause-counted g c =
    let counted = drawing_counted _ _ _ _ _ _ _ _ c.loop.invariant.1 in
    let same = ap (λ (r : Report). r.events) c.in_default.ensures.report in
    omega (arith, counted, same, c.loop-test.true)

pub returns-clause-counted : goal.returns-clause-counted
returns-clause-counted g c =
    let counted = drawing_counted _ _ _ _ _ _ _ _ c.loop.invariant.1 in
    omega (arith, counted, c.loop.auto.counter-end)
