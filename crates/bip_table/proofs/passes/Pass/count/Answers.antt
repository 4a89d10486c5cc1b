use Rattle.bip_table.proofs.PassLemmas.{count_within}
use Rattle.bip_table.proofs.passes.Pass.count.Goals as goal

pub returns-clause-few : goal.returns-clause-few
returns-clause-few g c = rw (c.count_in.ensures, c.as_slice.ensures, ← c.self.view_is)
    (count_within c.self.inside.tallies c.self.inside.share.amount c.args.comp.0 c.self.invariant.1)
