use Rattle.std.proofs.Common.{refl}
use Rattle.bip_core.proofs.SendLemmas.{sends_nothing}
use Rattle.bip_core.proofs.LetterLemmas.{told_numbered}
use Rattle.bip_core.proofs.sending.send_told.Goals as goal

pub returns-in-Dropped : goal.returns-in-Dropped
returns-in-Dropped c = rw c.in-Dropped.is (sends_nothing c.args.plan.now _ _ c.args.mail.now refl
    c.of.ensures)

pub returns-in-Stale : goal.returns-in-Stale
returns-in-Stale c = rw c.in-Stale.is (sends_nothing c.args.plan.now _ _ c.args.mail.now refl
    c.of-in-Stale.ensures)

pub notify_all-requires : goal.notify_all-requires
notify_all-requires c =
    rw c.as_slice.ensures.notifies (told_numbered c.args.plan.now c.in-Told.notifies
    (rw c.in-Told.is at c.requires))
