use Rattle.bip_host.proofs.MergeLemmas.{puts}
use Rattle.bip_host.proofs.inboxes.Inbox.put.Goals as goal

pub push_as-requires-clause-rule : goal.push_as-requires-clause-rule
push_as-requires-clause-rule g c = λ n. puts n _ _ _
