use Rattle.std.proofs.Common.{◌∙◌, ◌≡◌, ◌<◌, ◌^◌, ap, arith, length, rules, take}
use Rattle.std.proofs.lemmas.List.{length-take-le, take_more}
use Rattle.bip_core.specs.Worlds.{world_of}
use Rattle.bip_core.specs.declared.events.Event.TheVariants.{Mail}
use Rattle.bip_core.specs.declared.runs.Report.{Report}
use Rattle.bip_core.proofs.KeepLemmas.{worlds_keep_their_plan}
use Rattle.bip_core.proofs.RunLemmas.{events_counted, run_more, steps_grow}
use Rattle.bip_core.proofs.runs.run_steps.Goals as goal

pub run_event-requires-clause-room : goal.run_event-requires-clause-room
run_event-requires-clause-room g c =
    let i = c.loop-event.event-index in
    let es = take i c.args.events.now in
    let small : length c.args.events.now < 2 ^ 64 = search rules in
    let few : length es ≡ i = length-take-le i c.args.events.now
    c.loop-event.auto.event-index-end in
    let counted = events_counted es (world_of c.args.world.now)
    (world_of c.loop-event.world) c.loop-event.report c.loop-event.invariant.0 in
    omega (arith, small, few, counted, c.loop-event-test.true)

pub loop-event-preserved : goal.loop-event-preserved
loop-event-preserved g c =
    let i = c.loop-event.event-index in
    let es = take i c.args.events.now in
    let more = take_more c.args.events.now i (Mail 0) c.loop-event-test.true in (
      rw more (run_more es (world_of c.args.world.now)
          (world_of c.loop-event.world) _ c.loop-event.report _ _ c.loop-event.invariant.0
          c.run_event.ensures.done),
      c.run_event.ensures.adds_up,
    )

pub returns-clause-grown : goal.returns-clause-grown
returns-clause-grown g c =
    let run = c.loop-event.invariant.0 in
    let grown = steps_grow _ run.dids (world_of c.args.world.now)
    (world_of c.loop-event.world) run.steps in
    (grown.0, grown.1, ap (λ (r : Report). r.grants) run.sums ∙ grown.2)

pub returns-clause-same : goal.returns-clause-same
returns-clause-same g c =
    let run = c.loop-event.invariant.0 in
    worlds_keep_their_plan (world_of c.args.world.now)
    (world_of c.loop-event.world) _ run.dids run.steps
