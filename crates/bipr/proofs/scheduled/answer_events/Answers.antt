use Rattle.std.proofs.Common.{◌∙◌, refl, subst, sym}
use Rattle.std.proofs.lemmas.Result.{IfOk-weaker}
use Rattle.bip_core.specs.Worlds.{world_of}
use Rattle.bip_partition.specs.Plans.{Planned}
use Rattle.bip_schedule.specs.Laws.{IsFault}
use Rattle.bip_schedule.specs.Schedules.{IsEventText}
use Rattle.bipr.specs.Resolvers.{IsSharedAtFirst}
use Rattle.bipr.specs.Scheduled.{no_schedule, stepped}
use Rattle.bipr.proofs.ScheduledLemmas.{both_said, has_refused, has_stepped, is_run}
use Rattle.bipr.proofs.scheduled.answer_events.Goals as goal

pub answer_run-requires : goal.answer_run-requires
answer_run-requires g c =
    let run = c.in-Ok.ensures.run in
    let w = world_of c.in_ok-world.world in
    let v = world_of c.follow_schedule.new.world in
    (c.world_laws.ensures.plan w v run.0 run.2.dids run.2.steps).plan
    ∙ c.in_ok-world.ensures.new.plan

pub returns-in-Ok : goal.returns-in-Ok
returns-in-Ok g c =
    let p = c.args.plan.now in
    let run = c.in-Ok.ensures.run in
    let report = c.in-Ok.report in
    let w = world_of c.in_ok-world.world in
    let v = world_of c.follow_schedule.new.world in
    both_said c.answer_run.result _ _ c.answer_run.ensures.answer c.answer_run.ensures.reads
    (λ answer is reads resolver shared.
    stepped report answer
    (has_stepped p c.args.base resolver c.args.schedule.now answer run.0 w v report is
    (subst (λ (q : Planned). IsEventText q c.args.schedule.now run.0)
    c.in_ok-world.ensures.new.plan run.1)
    c.in_ok-world.ensures.new
    (subst (IsSharedAtFirst resolver p) (sym c.in_ok-world.ensures.sharing) shared)
    run.2
    (is_run p c.args.base run.0 w v report _ c.world_laws.ensures.plan
    c.in_ok-world.ensures.new run.2
    c.answer_run.ensures.ran c.in-Ok.ensures.grown reads)))

pub refuse_schedule-requires : goal.refuse_schedule-requires
refuse_schedule-requires g c =
    subst (λ (q : Planned). IsFault q c.args.schedule.now c.in-Err.line c.in-Err.fault)
    c.in_ok-world.ensures.new.plan c.in-Err.ensures.fault

pub returns : goal.returns
returns g c =
    let p = c.args.plan.now in
    let fault : IsFault p c.args.schedule.now c.in-Err.line c.in-Err.fault =
    subst (λ (q : Planned). IsFault q c.args.schedule.now c.in-Err.line c.in-Err.fault)
    c.in_ok-world.ensures.new.plan c.in-Err.ensures.fault in
    IfOk-weaker c.refuse_schedule.result _ _
    (λ answer is resolver shared. no_schedule answer
    (has_refused p c.args.schedule.now _ answer c.in-Err.line c.in-Err.fault is refl fault.1
    fault.0))
    c.refuse_schedule.ensures.refused
