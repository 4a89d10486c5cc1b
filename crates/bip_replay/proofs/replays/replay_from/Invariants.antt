use Rattle.bip_replay.specs.Runs.{standing_of}
use Rattle.bip_replay.proofs.ReadingLemmas.{SoFar}
use Rattle.bip_replay.proofs.replays.replay_from.Given as goal

abbrev pub invariant-loop-number : goal.invariant-loop-number
invariant-loop-number l = SoFar l.fn.position.model l.fn.position.base l.text
    (standing_of l.follower) l.count l.number-iterator
