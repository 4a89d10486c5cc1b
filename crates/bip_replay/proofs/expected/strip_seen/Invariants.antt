use Rattle.std.proofs.Common.{take}
use Rattle.bip_replay.specs.Expected.{BeginsWith}
use Rattle.bip_replay.specs.Runs.{standing_of}
use Rattle.bip_replay.proofs.expected.strip_seen.Given as goal

abbrev pub invariant-loop-comp : goal.invariant-loop-comp
invariant-loop-comp l = BeginsWith (standing_of l.position)
    (take l.comp-index l.looks) l.text l.rest
