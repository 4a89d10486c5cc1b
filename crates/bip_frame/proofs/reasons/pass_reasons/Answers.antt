use Rattle.std.proofs.Common.{refl}
use Rattle.std.proofs.lemmas.Result.{err_from_is_err_and}
use Rattle.bip_frame.specs.Entries.{no_word, passed, read_parts, read_reason}
use Rattle.bip_frame.specs.Frames.{inter_of}
use Rattle.bip_frame.proofs.PassLemmas.{goes_on, ends, is_done}
use Rattle.bip_frame.proofs.reasons.pass_reasons.Goals as goal

pub returns-in_err-why : goal.returns-in_err-why
returns-in_err-why c =
    let p = err_from_is_err_and c.from_residual.result c.from_residual.ensures.1 in
    rw (p.1, p.2) (ends read_reason inter_of no_word c.in_err-why.field-0.0 c.args.count
    c.loop.counter c.loop.low c.loop.rest.now
    (passed no_word (read_parts read_reason inter_of c.args.count 0 c.args.bytes.now))
    c.loop-test.true c.in_err-why.ensures c.loop.invariant)

pub loop-preserved : goal.loop-preserved
loop-preserved c =
    goes_on read_reason inter_of no_word no_word c.args.count c.loop.counter c.loop.low
    c.loop.rest.now c.in_ok-why.why c.in_ok-why.after.now
    (passed no_word (read_parts read_reason inter_of c.args.count 0 c.args.bytes.now))
    (λ ys. refl) c.loop-test.true c.in_ok-why.ensures c.loop.invariant

pub returns : goal.returns
returns c = is_done read_reason inter_of no_word c.args.count c.loop.counter c.loop.low
    c.loop.rest.now (passed no_word (read_parts read_reason inter_of c.args.count 0
    c.args.bytes.now)) c.loop-test.false c.loop.invariant
