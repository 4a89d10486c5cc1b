use Rattle.std.proofs.Common.{◌≡◌}
use Rattle.bip_replay.proofs.followers.Follower.count_moved.Given as goal

abbrev pub invariant-loop-participant : goal.invariant-loop-participant
invariant-loop-participant l = l.self ≡ l.initial.self
