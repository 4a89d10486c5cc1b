use Rattle.std.proofs.Common.{[], ◌∷◌, ap, subst}
use Rattle.bip_core.specs.Events.{ArePut}
use Rattle.bip_core.specs.declared.accepting.Address.TheVariants.{Class}
use Rattle.bip_core.specs.declared.messages.Message.{Message}
use Rattle.bip_core.specs.declared.messages.Message.TheVariants.{ReplyToClass}
use Rattle.bip_core.proofs.SendLemmas.{one_missed}
use Rattle.bip_core.proofs.sending.put_reply.Goals as goal

pub of-requires : goal.of-requires
of-requires c = (
  ReplyToClass c.args.reply.now,
  record { address = ap Class c.class_of.ensures; frame = c.in-Ok.ensures },
)

pub returns-in-Ok : goal.returns-in-Ok
returns-in-Ok c =
    let is = c.of.ensures (ReplyToClass c.args.reply.now)
    (record { address = ap Class c.class_of.ensures; frame = c.in-Ok.ensures }) in
    subst (λ (m : Message). ArePut (m ∷ []) c.put_last.result c.args.mail.now c.put_last.new.mail)
    is c.put_last.ensures

pub returns-in-Err : goal.returns-in-Err
returns-in-Err c = one_missed (ReplyToClass c.args.reply.now) c.args.mail.now
