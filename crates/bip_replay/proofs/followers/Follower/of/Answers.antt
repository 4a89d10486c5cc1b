use Rattle.bip_replay.proofs.FollowerLemmas.{kept_none}
use Rattle.bip_replay.proofs.followers.Follower.of.Goals as goal

pub invariant_of-result : goal.invariant_of-result
invariant_of-result c = kept_none c.args.position.model.component_names 64 c.none-words.result
    c.none-words.ensures
