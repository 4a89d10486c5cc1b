use Rattle.std.proofs.Common.{arith}
use Rattle.std.proofs.lemmas.List.{length-set}
use Rattle.bip_model.specs.Parts.{Participant}
use Rattle.bip_replay.proofs.NextLemmas.{unused_yet, used_more}
use Rattle.bip_replay.proofs.runs.use_next.Goals as goal

pub overflow_add-number : goal.overflow_add-number
overflow_add-number c =
    let d : Participant = (record { 0 = 0 }, record { 0 = 0 }) in
    let yet = unused_yet c.args.used.now c.loop-participant.used c.args.participants.now
    c.loop-participant.participant-index d 0 c.requires.rising c.loop-participant-test.true
    c.loop-participant.invariant.used in
    let has = (c.requires.next c.loop-participant.participant-index d
    c.loop-participant-test.true).next in
    rw c.as_slice.ensures (omega (arith, yet, has))

pub loop-participant-preserved : goal.loop-participant-preserved
loop-participant-preserved c =
    let d : Participant = (record { 0 = 0 }, record { 0 = 0 }) in
    let has = c.requires.next c.loop-participant.participant-index d c.loop-participant-test.true in
    record {
      used = λ base n. rw (c.set.ensures, c.as_slice.ensures)
          (used_more c.args.used.now c.loop-participant.used c.args.participants.now
          c.loop-participant.participant-index d base n c.requires.rising
          c.loop-participant-test.true c.loop-participant.invariant.counted has.known
          c.loop-participant.invariant.used);
      counted = rw c.set.ensures (simp length-set c.loop-participant.invariant.counted);
    }
