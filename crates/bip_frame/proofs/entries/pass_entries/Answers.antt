use Rattle.std.proofs.Common.{ap, ◌∙◌}
use Rattle.std.proofs.lemmas.Result.{err_from_is_err_and}
use Rattle.std.specs.Prelude.{◌||◌, Bool}
use Rattle.bip_model.specs.Wants.{is_moved}
use Rattle.bip_frame.specs.Entries.{one_moves, passed, read_entry, read_parts}
use Rattle.bip_frame.specs.Frames.{comp_of}
use Rattle.bip_frame.proofs.FieldLemmas.{done}
use Rattle.bip_frame.proofs.PassLemmas.{moved_or, one_more_moves, no_more, goes_on, ends, is_done}
use Rattle.bip_frame.proofs.entries.pass_entries.Goals as goal

pub returns-in_err-want : goal.returns-in_err-want
returns-in_err-want c =
    let p = err_from_is_err_and c.from_residual.result c.from_residual.ensures.1 in
    rw (p.1, p.2) (ends read_entry comp_of (moved_or c.loop.moved) c.in_err-want.field-0.0
    c.args.count c.loop.counter c.loop.low c.loop.rest.now
    (passed one_moves (read_parts read_entry comp_of c.args.count 0 c.args.bytes.now))
    c.loop-test.true c.in_err-want.ensures c.loop.invariant)

pub loop-preserved : goal.loop-preserved
loop-preserved c =
    rw c.moves-moved.ensures (goes_on read_entry comp_of (moved_or c.loop.moved)
    (moved_or (c.loop.moved || is_moved c.in_ok-want.want.role)) c.args.count c.loop.counter
    c.loop.low c.loop.rest.now c.in_ok-want.want c.in_ok-want.after.now
    (passed one_moves (read_parts read_entry comp_of c.args.count 0 c.args.bytes.now))
    (one_more_moves c.loop.moved c.in_ok-want.want) c.loop-test.true c.in_ok-want.ensures
    c.loop.invariant)

pub returns : goal.returns
returns c =
    is_done read_entry comp_of (moved_or c.loop.moved) c.args.count c.loop.counter c.loop.low
    c.loop.rest.now (passed one_moves (read_parts read_entry comp_of c.args.count 0
    c.args.bytes.now)) c.loop-test.false c.loop.invariant
    ∙ ap (λ (moved : Bool). done (moved, c.loop.rest.now)) (no_more c.loop.moved)
