use Rattle.bip_core.proofs.SendLemmas.{one_missed, one_put}
use Rattle.bip_core.proofs.sending.put_last.Goals as goal
use Rattle.bip_core.proofs.sending.put_last.Goals.{in-Ok, in-Err}

pub returns : goal.returns
returns c = elim c.match-push.branch [
  | in-Ok w ↦ rw (w.result-is, w.in-Ok.ensures.ok) (one_put c.args.letter c.args.mail.now)
  | in-Err w ↦ rw (w.result-is, w.in-Err.ensures.err) (one_missed c.args.letter c.args.mail.now)
]
