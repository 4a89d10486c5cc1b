use Rattle.std.proofs.Common.{take}
use Rattle.bip_replay.specs.Runs.{StandsAfter, standing_of}
use Rattle.bip_schedule.proofs.checking.check.Given as goal

abbrev pub invariant-loop-grant : goal.invariant-loop-grant
invariant-loop-grant l = StandsAfter l.model l.base (take l.grant-index l.trace)
    (standing_of l.position)
