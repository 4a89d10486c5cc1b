use Rattle.std.proofs.Common.{◌<◌, arith, length}
use Rattle.std.proofs.lemmas.Bool.Decides.{nat_tests}
use Rattle.bip_replay.proofs.ExpectedLemmas.{begins_wants, looks_known, some_weaker}
use Rattle.bip_replay.specs.Runs.{standing_of}
use Rattle.bip_replay.proofs.expected.strip_wants.Goals as goal

pub strip_seen-requires : goal.strip_seen-requires
strip_seen-requires c = rw c.model-model.ensures at
    (looks_known _ _ c.looks-looks.result.now c.looks-looks.ensures.valid
    c.looks-looks.ensures.looks)

pub returns : goal.returns
returns c =
    let few = rw c.model-model.ensures at (rw c.participants-participants.ensures.participants at
    c.if-participants-looks-gt-MOST_WANTS.false) in
    let moved = rw c.model-model.ensures at (rw c.participants-participants.ensures.participants at
    c.in_ok-rest.ensures) in
    let some : 0 < length c.looks-looks.result.now = grind (arith, nat_tests) in
    some_weaker _ _ c.strip_seen.result (λ rest looks. begins_wants
    (standing_of c.args.position.now) c.args.inter.0 c.looks-looks.result.now c.args.text.now
    c.in_ok-rest.rest.now c.in_ok-strip.field-0.now rest.now
    (rw c.model-model.ensures at c.looks-looks.ensures.looks) few moved c.in_ok-strip.ensures
    looks some) c.strip_seen.ensures
