use mir.Syntax.{w64}
use Rattle.bip_model.proofs.SetLemmas.{has_with, grows_with}
use Rattle.bip_partition.proofs.sets.with_comp.Goals as goal

pub returns-clause-has : goal.returns-clause-has
returns-clause-has c = has_with w64 c.args.set c.args.comp.0 c.requires

pub returns-clause-more : goal.returns-clause-more
returns-clause-more c = grows_with w64 c.args.set c.args.comp.0 c.requires
