use Rattle.std.proofs.Common.{◌≡◌, ◌<◌, get_or, length, arith}
use Rattle.bip_frame.specs.Frames.{FitsInter, reason_entry}
use Rattle.bip_frame.proofs.LentLemmas.{at_get}
use Rattle.bip_frame.proofs.WritingLemmas.{one_more_fits, one_more_written}
use Rattle.bip_frame.proofs.writing.put_reasons.Goals as goal

pub loop-i-preserved : goal.loop-i-preserved
loop-i-preserved o c =
    let here : get_or c.args.reasons.now c.loop-i.i c.in-Some.why ≡ c.in-Some.why =
    at_get c.args.reasons.now c.loop-i.i c.in-Some.why (cc) in
    let within : c.loop-i.i < length c.args.reasons.now =
    omega (arith, c.loop-i-test.true, c.len-i-end.ensures.count) in (
      one_more_written reason_entry c.args.out.now.items
          (length c.args.reasons.now) c.args.reasons.now c.loop-i.i c.in-Some.why c.loop-i.out.items
          c.put_reason.new.out.items within here c.loop-i.invariant.0 c.put_reason.ensures.items,
      one_more_fits FitsInter c.args.reasons.now c.loop-i.i c.in-Some.why within
          c.loop-i.invariant.1 (rw here c.put_reason.ensures.fits),
      omega (arith, c.loop-i.invariant.2, c.put_reason.ensures.len),
    )
