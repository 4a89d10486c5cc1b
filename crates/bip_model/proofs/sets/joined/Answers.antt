use Rattle.bip_model.proofs.SetLemmas.{has_joined}
use Rattle.bip_model.proofs.sets.joined.Goals as goal

pub returns : goal.returns
returns c = λ b. has_joined c.args.set c.args.other b
