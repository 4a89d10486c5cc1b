use mir.Syntax.{w128}
use Rattle.bip_model.proofs.SetLemmas.{less_without, put_without}
use Rattle.bip_model.proofs.sets.without_inter.Goals as goal

pub returns-clause-has : goal.returns-clause-has
returns-clause-has c = put_without w128 c.args.set c.args.inter.0 c.ranges.set.fits c.requires

pub returns-clause-less : goal.returns-clause-less
returns-clause-less c = less_without w128 c.args.set c.args.inter.0 c.requires
