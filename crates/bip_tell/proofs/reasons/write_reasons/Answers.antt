use Rattle.std.proofs.Common.{sym}
use Rattle.bip_tell.proofs.LineLemmas.{reason_one}
use Rattle.bip_tell.proofs.reasons.write_reasons.Goals as goal

pub loop-place-preserved : goal.loop-place-preserved
loop-place-preserved c =
    reason_one c.args.model.now c.loop-place.place c.in-Some.why c.args.reasons.now _
    c.loop-place.text.items
    c.write_reason.new.text.items (rw (← c.len-place-end.ensures.count) c.loop-place-test.true)
    (sym c.in-Some.ensures)
    c.in_ok-write_reason.ensures c.loop-place.invariant
