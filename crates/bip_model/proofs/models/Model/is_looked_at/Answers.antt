use Rattle.bip_model.proofs.PartyLemmas.{in_looks}
use Rattle.bip_model.proofs.models.Model.is_looked_at.Goals as goal

pub returns : goal.returns
returns c =
    let listed = in_looks c.args.self.now c.args.inter.0 c.looks.result.now c.looks.ensures.looks
    c.args.comp.0 in
    rw c.is_among.ensures (listed.1, listed.0)
