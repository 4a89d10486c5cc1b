use Rattle.bip_core.proofs.AcceptingLemmas.{notify_counted}
use Rattle.bip_core.proofs.accepting.count_told.Goals as goal

pub returns : goal.returns
returns c = rw c.vars-vars.ensures (notify_counted c.args.notify.now)
