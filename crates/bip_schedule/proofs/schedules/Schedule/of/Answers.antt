use Rattle.std.proofs.Common.{◌≡◌, ◌<◌, ◌^◌, arith, length, rules, subst, sym}
use Rattle.bip_model.specs.Texts.{numbered_lines}
use Rattle.bip_schedule.specs.Laws.{IsFault}
use Rattle.bip_schedule.proofs.ScheduleLemmas.{HasTested, tested-all, tested-fault, tested-more}
use Rattle.bip_schedule.proofs.ScheduleLemmas.{tested-none}
use Rattle.bip_schedule.proofs.schedules.Schedule.of.Goals as goal

pub loop-number-init : goal.loop-number-init
loop-number-init c =
    let all : c.into_iter-number-iterator.result ≡ numbered_lines c.args.text.now = search rules in
    subst (HasTested c.args.plan.now c.args.text.now c.of-known.result) (sym all)
    (tested-none c.args.plan.now c.args.text.now c.of-known.result c.of-known.ensures.plan
    c.of-known.ensures.stations)

pub returns-in-Err-clause-fault : goal.returns-in-Err-clause-fault
returns-in-Err-clause-fault c =
    subst (IsFault c.args.plan.now c.args.text.now c.in-Some.number) (sym c.from.ensures)
    (tested-fault _ _ _ _ _ _ _ c.in-Err.fault c.loop-number.invariant c.in-Some.ensures.steps
    c.in-Err.ensures.says)

pub loop-number-preserved : goal.loop-number-preserved
loop-number-preserved c =
    tested-more _ _ _ _ _ _ _ _ c.in_default.field-0 c.loop-number.invariant
    c.in-Some.ensures.steps c.in_default.ensures.says c.in_default.ensures.spelled
    c.in_default.ensures.same

pub invariant_of-result : goal.invariant_of-result
invariant_of-result c =
    let whole = tested-all _ _ _ _ c.of-lines.result c.loop-number.invariant
    c.in-None.ensures.steps.0 c.of-lines.ensures in whole.well

pub returns-clause-events : goal.returns-clause-events
returns-clause-events c =
    let whole = tested-all _ _ _ _ c.of-lines.result c.loop-number.invariant
    c.in-None.ensures.steps.0 c.of-lines.ensures in whole.says

pub returns-clause-spelled : goal.returns-clause-spelled
returns-clause-spelled c =
    let whole = tested-all _ _ _ _ c.of-lines.result c.loop-number.invariant
    c.in-None.ensures.steps.0 c.of-lines.ensures in whole.spelled

pub returns-clause-few : goal.returns-clause-few
returns-clause-few c =
    let whole = tested-all _ _ _ _ c.of-lines.result c.loop-number.invariant
    c.in-None.ensures.steps.0 c.of-lines.ensures in
    let small : length c.args.text.now < 2 ^ 64 = search rules in
    omega (arith, whole.few, small)
