use Rattle.std.proofs.Common.{[], ◌∷◌, refl, subst}
use Rattle.bip_core.specs.Events.{ArePut}
use Rattle.bip_core.specs.declared.messages.Message.{Message}
use Rattle.bip_core.specs.declared.messages.Message.TheVariants.{NotifyComponent}
use Rattle.bip_core.proofs.SendLemmas.{one_missed}
use Rattle.bip_core.proofs.sending.put_notify.Goals as goal

pub of-requires : goal.of-requires
of-requires c = (
  NotifyComponent c.args.notify.now,
  record { address = refl; frame = c.in-Ok.ensures },
)

pub returns-in-Ok : goal.returns-in-Ok
returns-in-Ok c =
    let is = c.of.ensures (NotifyComponent c.args.notify.now)
    (record { address = refl; frame = c.in-Ok.ensures }) in
    subst (λ (m : Message). ArePut (m ∷ []) c.put_last.result c.args.mail.now c.put_last.new.mail)
    is c.put_last.ensures

pub returns-in-Err : goal.returns-in-Err
returns-in-Err c = one_missed (NotifyComponent c.args.notify.now) c.args.mail.now
