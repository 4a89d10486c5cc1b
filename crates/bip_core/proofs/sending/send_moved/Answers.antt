use Rattle.std.proofs.Common.{refl}
use Rattle.bip_core.proofs.SendLemmas.{sends_nothing}
use Rattle.bip_core.proofs.sending.send_moved.Goals as goal

pub returns-in-Spent : goal.returns-in-Spent
returns-in-Spent c = rw c.in-Spent.is (sends_nothing c.args.plan.now _ _ c.args.mail.now refl
    c.of.ensures)

pub returns-in-Stale : goal.returns-in-Stale
returns-in-Stale c = rw c.in-Stale.is (sends_nothing c.args.plan.now _ _ c.args.mail.now refl
    c.of-in-Stale.ensures)
