use Rattle.std.proofs.Common.{[], ◌∷◌, subst}
use Rattle.bip_model.specs.declared.messages.Notify.{Notify}
use Rattle.bip_core.specs.Events.{ArePut}
use Rattle.bip_core.specs.declared.messages.Message.TheVariants.{NotifyComponent}
use Rattle.bip_core.proofs.SendLemmas.{none_put, put_one_more}
use Rattle.bip_core.proofs.sending.notify_all.Goals as goal

pub loop-notify-init : goal.loop-notify-init
loop-notify-init c = none_put c.args.mail.now

pub loop-notify-preserved : goal.loop-notify-preserved
loop-notify-preserved c =
    let one = subst (λ (n : Notify). ArePut (NotifyComponent n ∷ []) c.put_notify-lost.result
    c.loop-notify.mail c.put_notify-lost.new.mail) c.notify-item.is c.put_notify-lost.ensures in
    put_one_more (λ (n : Notify). NotifyComponent n) c.args.notifies.now c.loop-notify.notify-index
    c.notify-item.result c.loop-notify.lost c.put_notify-lost.result c.args.mail.now
    c.loop-notify.mail c.put_notify-lost.new.mail c.loop-notify-test.true
    c.loop-notify.invariant one
