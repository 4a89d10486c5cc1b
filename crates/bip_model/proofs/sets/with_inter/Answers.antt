use mir.Syntax.{w128}
use Rattle.bip_model.proofs.SetLemmas.{has_with, grows_with}
use Rattle.bip_model.proofs.sets.with_inter.Goals as goal

pub returns-clause-has : goal.returns-clause-has
returns-clause-has c = has_with w128 c.args.set c.args.inter.0 c.requires

pub returns-clause-more : goal.returns-clause-more
returns-clause-more c = grows_with w128 c.args.set c.args.inter.0 c.requires
