use Rattle.bip_host.proofs.MergeLemmas.{opens}
use Rattle.bip_host.proofs.inboxes.Inbox.writer.Goals as goal

pub pass-requires : goal.pass-requires
pass-requires g c = opens {M = g.row.M.Denot}
