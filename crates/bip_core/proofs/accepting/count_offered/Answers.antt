use Rattle.bip_core.proofs.AcceptingLemmas.{offer_counted}
use Rattle.bip_core.proofs.accepting.count_offered.Goals as goal

pub returns : goal.returns
returns c = rw c.vars-vars.ensures (offer_counted c.args.offer.now)
