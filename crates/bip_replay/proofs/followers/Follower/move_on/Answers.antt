use Rattle.bip_replay.proofs.FollowerLemmas.{same_expected}
use Rattle.bip_replay.proofs.followers.Follower.move_on.Goals as goal

pub invariant_of-self : goal.invariant_of-self
invariant_of-self c = rw (same_expected c.step_expected.result c.self.inside.position
    c.step_expected.new.self c.args.inter.0 (rw (← c.self.view_is) at c.requires)
    c.step_expected.ensures.on c.step_expected.ensures.err) c.self.invariant
