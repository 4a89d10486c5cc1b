use Rattle.bip_host.proofs.WaitingLemmas.{waiting_count}
use Rattle.bip_host.proofs.waiting.WaitingBook.+drain.Given as goal

abbrev pub decreases-drain : goal.decreases-drain
decreases-drain l = waiting_count l.self.now.places
