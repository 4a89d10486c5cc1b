use Rattle.bip_partition.proofs.SetLemmas.{has_or}
use Rattle.bip_partition.proofs.sets.joined.Goals as goal

pub returns : goal.returns
returns c = has_or c.args.set c.args.other
