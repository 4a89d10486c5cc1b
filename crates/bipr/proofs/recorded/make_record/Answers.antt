use Rattle.std.proofs.Common.{length, rules, ◌<◌, ◌≡◌}
use Rattle.bipr.specs.Inputs.{most_bytes}
use Rattle.bipr.specs.Recorded.{IsRecord, unreadable}
use Rattle.bipr.proofs.recorded.make_record.Goals as goal

pub returns-in-Some-clause-none : goal.returns-in-Some-clause-none
returns-in-Some-clause-none c =
    let whole : c.args.hosted.now.report.lost ≡ 0 = search rules in
    let of : IsRecord c.args.plan.now c.args.resolver c.args.trace.now c.in-Some.schedule.items =
    rw c.in-Some.is at c.in_ok-record_with.ensures.made in
    let longer : most_bytes < length c.in-Some.schedule.items = search rules in
    (whole, unreadable c.in-Some.schedule.items of longer)
