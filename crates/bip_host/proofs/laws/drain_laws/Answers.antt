use Rattle.bip_host.proofs.DrainLemmas.{drains_in_order, entry_is_own}
use Rattle.bip_host.proofs.laws.drain_laws.Goals as goal

pub returns : goal.returns
returns c = record { order = drains_in_order; own = entry_is_own }
