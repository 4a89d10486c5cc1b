use Rattle.std.proofs.Common.{rules}
use Rattle.bip_replay.proofs.FollowerLemmas.{kept_at}
use Rattle.bip_replay.proofs.followers.Follower.kept_word.Goals as goal

pub returns : goal.returns
returns c =
    rw (← c.self.view_is) (record {
      word = kept_at c.self.inside.position.model.component_names c.self.inside.words
          c.args.comp.0 c.self.invariant;
      numbered = search rules;
    })
