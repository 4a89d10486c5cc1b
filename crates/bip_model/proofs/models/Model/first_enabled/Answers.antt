use Rattle.bip_model.proofs.LowestLemmas.{lowest_above}
use Rattle.bip_model.specs.States.{state_of}
use Rattle.bip_model.proofs.models.Model.first_enabled.Goals as goal

pub returns-then-enabled-clause-some : goal.returns-then-enabled-clause-some
returns-then-enabled-clause-some c =
    lowest_above c.args.self.now (state_of c.args.state.now) c.args.inter.0 c.args.above.now
    c.loop-higher.higher-index (record { 0 = 0 }) c.requires c.loop-higher-test.true
    (c.enabled.ensures.0 c.if-enabled.true) c.loop-higher.invariant
