use Rattle.std.proofs.Common.{refl}
use Rattle.bip_core.proofs.SendLemmas.{sends_nothing}
use Rattle.bip_core.proofs.LetterLemmas.{told_numbered}
use Rattle.bip_core.proofs.sending.send_tried.Goals as goal

pub returns-in-Foreign : goal.returns-in-Foreign
returns-in-Foreign c = rw c.in-Foreign.is (sends_nothing c.args.plan.now _ _ c.args.mail.now refl
    c.of.ensures)

pub returns-in-Pending : goal.returns-in-Pending
returns-in-Pending c = rw c.in-Pending.is (sends_nothing c.args.plan.now _ _ c.args.mail.now refl
    c.of-in-Pending.ensures)

pub returns-in-Not : goal.returns-in-Not
returns-in-Not c = rw c.in-Not.is (sends_nothing c.args.plan.now _ _ c.args.mail.now refl
    c.of-in-Not.ensures)

pub returns-in-Ended : goal.returns-in-Ended
returns-in-Ended c = rw c.in-Ended.is (sends_nothing c.args.plan.now _ _ c.args.mail.now refl
    c.of-in-Ended.ensures)

pub notify_all-requires : goal.notify_all-requires
notify_all-requires c =
    rw c.as_slice.ensures.notifies (told_numbered c.args.plan.now c.in-Local.notifies
    (rw c.in-Local.is at c.requires))
