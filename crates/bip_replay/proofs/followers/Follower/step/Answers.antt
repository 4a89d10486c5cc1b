use Rattle.std.proofs.Common.{refl}
use Rattle.bip_replay.proofs.FollowerLemmas.{same_model}
use Rattle.bip_replay.specs.Runs.{standing_of, standing_on}
use Rattle.bip_replay.proofs.followers.Follower.step.Goals as goal

pub invariant_of-self : goal.invariant_of-self
invariant_of-self c = rw (same_model c.step.result c.self.inside.position c.step.new.self
    (standing_on (standing_of c.self.inside.position) c.args.grant.now) refl c.step.ensures.on
    c.step.ensures.err) c.self.invariant
