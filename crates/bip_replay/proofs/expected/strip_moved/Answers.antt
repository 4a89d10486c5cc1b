use Rattle.bip_replay.proofs.ExpectedLemmas.{more_participants}
use Rattle.bip_replay.specs.Runs.{standing_of}
use Rattle.bip_replay.proofs.expected.strip_moved.Goals as goal

pub loop-participant-preserved : goal.loop-participant-preserved
loop-participant-preserved c = more_participants
    (standing_of c.args.position.now) c.args.participants.now c.loop-participant.participant-index
    (record { 0 = 0 }, record { 0 = 0 }) _ _ _ c.loop-participant-test.true
    c.loop-participant.invariant c.in_ok-rest.ensures
