use Rattle.bip_host.proofs.MeaningLemmas.{merges_add_nothing, merges_keep_order}
use Rattle.bip_host.proofs.laws.inbox_laws.Goals as goal

pub returns-clause-order : goal.returns-clause-order
returns-clause-order g c = merges_keep_order _

pub returns-clause-once : goal.returns-clause-once
returns-clause-once g c = merges_add_nothing _
