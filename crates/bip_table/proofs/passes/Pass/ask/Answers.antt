use Rattle.bip_table.proofs.PassLemmas.{counts_given}
use Rattle.bip_table.proofs.passes.Pass.ask.Goals as goal

pub returns-clause-few : goal.returns-clause-few
returns-clause-few g c = counts_given c.self.inside.tallies c.self.inside.share.amount _ _
    c.decide.ensures.amount c.self.invariant.1
