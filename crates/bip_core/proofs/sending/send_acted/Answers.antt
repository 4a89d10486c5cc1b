use Rattle.std.proofs.Common.{refl}
use Rattle.bip_core.proofs.SendLemmas.{sends_nothing}
use Rattle.bip_core.proofs.sending.send_acted.Goals as goal

pub returns-in-Nothing : goal.returns-in-Nothing
returns-in-Nothing c = rw c.in-Nothing.is (sends_nothing c.args.plan.now _ _ c.args.mail.now refl
    c.of.ensures)

pub returns-in-Moved : goal.returns-in-Moved
returns-in-Moved c = rw c.in-Moved.is (sends_nothing c.args.plan.now _ _ c.args.mail.now refl
    c.of-in-Moved.ensures)
