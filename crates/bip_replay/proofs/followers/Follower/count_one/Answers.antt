use Rattle.std.proofs.Common.{◌≡◌, arith}
use Rattle.std.proofs.lemmas.Grind.{common_steps}
use Rattle.bip_model.specs.Naming.{name_in}
use Rattle.bip_replay.proofs.FollowerLemmas.{kept_at, kept_put}
use Rattle.bip_replay.proofs.followers.Follower.count_one.Goals as goal

pub count_to-requires-clause-is : goal.count_to-requires-clause-is
count_to-requires-clause-is c =
    let named : c.as_bytes.result.now
    ≡ name_in c.self.inside.position.model.component_names c.args.comp.0 =
    grind (arith, common_steps) in
    rw named (kept_at c.self.inside.position.model.component_names c.self.inside.words
    c.args.comp.0 c.self.invariant)

pub invariant_of-self : goal.invariant_of-self
invariant_of-self c =
    let named : c.as_bytes.result.now
    ≡ name_in c.self.inside.position.model.component_names c.args.comp.0 =
    grind (arith, common_steps) in
    kept_put c.self.inside.position.model.component_names c.self.inside.words c.args.comp.0 _
    c.self.invariant (rw named at c.count_to.ensures)
