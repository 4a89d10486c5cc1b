use Rattle.std.proofs.Common.{[], ◌∷◌, refl, subst}
use Rattle.bip_core.specs.Events.{ArePut}
use Rattle.bip_core.specs.declared.messages.Message.{Message}
use Rattle.bip_core.specs.declared.messages.Message.TheVariants.{RequestToBank}
use Rattle.bip_core.proofs.SendLemmas.{one_missed}
use Rattle.bip_core.proofs.sending.put_request.Goals as goal

pub of-requires : goal.of-requires
of-requires c = (
  RequestToBank c.args.request.now,
  record { address = refl; frame = c.in-Ok.ensures },
)

pub returns-in-Ok : goal.returns-in-Ok
returns-in-Ok c =
    let is = c.of.ensures (RequestToBank c.args.request.now)
    (record { address = refl; frame = c.in-Ok.ensures }) in
    subst (λ (m : Message). ArePut (m ∷ []) c.put_last.result c.args.mail.now c.put_last.new.mail)
    is c.put_last.ensures

pub returns-in-Err : goal.returns-in-Err
returns-in-Err c = one_missed (RequestToBank c.args.request.now) c.args.mail.now
