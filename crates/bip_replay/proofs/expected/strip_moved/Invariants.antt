use Rattle.std.proofs.Common.{take}
use Rattle.bip_replay.specs.Expected.{BeginsWith, comps_of}
use Rattle.bip_replay.specs.Runs.{standing_of}
use Rattle.bip_replay.proofs.expected.strip_moved.Given as goal

abbrev pub invariant-loop-participant : goal.invariant-loop-participant
invariant-loop-participant l = BeginsWith (standing_of l.position)
    (comps_of (take l.participant-index l.participants)) l.text l.rest
