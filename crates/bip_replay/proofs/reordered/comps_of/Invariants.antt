use Rattle.std.proofs.Common.{◌≡◌, take}
use Rattle.bip_replay.specs.Expected.{comps_of}
use Rattle.bip_replay.proofs.reordered.comps_of.Given as goal

abbrev pub invariant-loop-participant : goal.invariant-loop-participant
invariant-loop-participant l = l.comps.items ≡ comps_of (take l.participant-index l.participants)
