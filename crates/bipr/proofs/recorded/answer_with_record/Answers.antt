use Rattle.bipr.proofs.RecordedLemmas.{record_kept, record_none}
use Rattle.bipr.proofs.recorded.answer_with_record.Goals as goal

pub returns-in-Ok : goal.returns-in-Ok
returns-in-Ok c =
    let made = rw c.in-Ok.is at c.in_ok-schedule.ensures.made in
    record_kept c.args.plan.now c.args.resolver c.args.path.now c.args.hosted.now c.args.plain
    c.in-Ok.schedule.items c.answer_keeping.result (rw c.as_slice.ensures at made)
    c.answer_keeping.ensures

pub returns-in-Err : goal.returns-in-Err
returns-in-Err c =
    let none = rw c.in-Err.is at c.in_ok-schedule.ensures.none in
    record_none c.args.plan.now c.args.resolver c.args.path.now c.args.hosted.now c.args.plain
    c.in-Err.why c.answer_unkept.result (rw c.as_slice.ensures at none)
    c.answer_unkept.ensures
