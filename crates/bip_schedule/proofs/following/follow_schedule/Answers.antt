use Rattle.std.proofs.Common.{◌<◌, ◌^◌, ◌∙◌, ap, arith, length, rules, subst, sym}
use Rattle.bip_core.proofs.RunLemmas.{steps_grow}
use Rattle.bip_core.specs.Worlds.{world_of}
use Rattle.bip_core.specs.declared.runs.Report.{Report}
use Rattle.bip_schedule.specs.Laws.{IsFault}
use Rattle.bip_schedule.proofs.FollowLemmas.{followed-all, followed-below, followed-event}
use Rattle.bip_schedule.proofs.FollowLemmas.{followed-none, followed-nothing, followed-until}
use Rattle.bip_schedule.proofs.ScheduleLemmas.{tested-fault}
use Rattle.bip_schedule.proofs.following.follow_schedule.Goals as goal

pub loop-number-init : goal.loop-number-init
loop-number-init g c =
    followed-none c.args.world.now.plan c.args.text.now c.of-known.result
    c.into_iter-number-iterator.result (world_of c.args.world.now) c.empty-report.result
    (c.of-known.ensures.plan ∙ c.plan.ensures) c.of-known.ensures.stations (search rules)
    c.empty-report.ensures.sums c.empty-report.ensures.adds_up

pub run_event-requires-clause-room : goal.run_event-requires-clause-room
run_event-requires-clause-room g c =
    let below = followed-below _ _ _ _ _ _ _ _ _ _ c.loop-number.invariant
    c.in-Some.ensures.steps in
    let small : length c.args.text.now < 2 ^ 64 = search rules in
    omega (arith, below, small)

pub loop-number-preserved-in-Ok-Some : goal.loop-number-preserved-in-Ok-Some
loop-number-preserved-in-Ok-Some g c =
    followed-event _ _ _ _ _ _ _ _ _ (world_of c.loop-number.world)
    (world_of c.run_event.new.world) _ _ c.in-Ok-Some.event c.loop-number.invariant
    c.in-Some.ensures.steps (search rules) (search rules) c.in-Ok-Some.ensures.same
    c.run_event.ensures.done c.run_event.ensures.adds_up

pub loop-number-preserved : goal.loop-number-preserved
loop-number-preserved g c =
    followed-nothing _ _ _ _ _ _ _ _ _ (world_of c.loop-number.world) _ c.loop-number.invariant
    c.in-Some.ensures.steps (search rules) c.in-Ok-None.ensures.same

pub returns-in-Err-clause-fault : goal.returns-in-Err-clause-fault
returns-in-Err-clause-fault g c =
    subst (IsFault c.args.world.now.plan c.args.text.now c.in-Some.number) (sym c.from.ensures)
    (tested-fault _ _ _ _ _ _ _ c.in-Err.fault c.loop-number.invariant.tested
    c.in-Some.ensures.steps c.in-Err.ensures.says)

pub returns-in-Err-clause-before : goal.returns-in-Err-clause-before
returns-in-Err-clause-before g c =
    followed-until _ _ _ _ _ _ _ _ (world_of c.loop-number.world) _ c.loop-number.invariant
    c.in-Some.ensures.steps

pub returns-clause-run : goal.returns-clause-run
returns-clause-run g c =
    followed-all _ _ _ _ _ (world_of c.loop-number.world) _ c.loop-number.invariant
    c.in-None.ensures.steps.0

pub returns-clause-grown : goal.returns-clause-grown
returns-clause-grown g c =
    let run = c.loop-number.invariant.ran in
    let grown = steps_grow _ run.dids (world_of c.args.world.now)
    (world_of c.loop-number.world) run.steps in
    (grown.0, grown.1, ap (λ (r : Report). r.grants) run.sums ∙ grown.2)
