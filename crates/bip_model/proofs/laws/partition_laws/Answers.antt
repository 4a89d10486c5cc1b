use Rattle.bip_model.proofs.PartitionLemmas.{is_in_order, parts_or_misplaces}
use Rattle.bip_model.proofs.laws.partition_laws.Goals as goal

pub returns : goal.returns
returns c = record { parts = parts_or_misplaces; order = is_in_order }
