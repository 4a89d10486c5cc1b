use Rattle.bip_forks.proofs.SharingLemmas.{forks_bank}
use Rattle.bip_forks.proofs.StepLemmas.{forks_stay}
use Rattle.bip_forks.proofs.laws.fork_laws.Goals as goal

pub returns-clause-stay : goal.returns-clause-stay
returns-clause-stay c = forks_stay

pub returns-clause-bank : goal.returns-clause-bank
returns-clause-bank c = forks_bank
