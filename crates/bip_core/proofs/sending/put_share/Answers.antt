use Rattle.std.proofs.Common.{◌≡◌, [], ◌∷◌, refl, rules, subst}
use Rattle.bip_core.specs.Events.{ArePut}
use Rattle.bip_core.specs.declared.messages.Message.{Message}
use Rattle.bip_core.specs.declared.messages.Message.TheVariants.{OfferTo}
use Rattle.bip_core.proofs.SendLemmas.{one_missed}
use Rattle.bip_core.proofs.sending.put_share.Goals as goal

pub of-requires : goal.of-requires
of-requires c =
    let same : c.in-Ok.share ≡ c.args.frame.now = search rules in
    (OfferTo c.args.class c.requires.0, record { address = refl; frame = rw same c.requires.1 })

pub returns-in-Ok : goal.returns-in-Ok
returns-in-Ok c = λ offer frame.
    let same : c.in-Ok.share ≡ c.args.frame.now = search rules in
    let is = c.of.ensures (OfferTo c.args.class offer)
    (record { address = refl; frame = rw same frame }) in
    subst (λ (m : Message). ArePut (m ∷ []) c.put_last.result c.args.mail.now c.put_last.new.mail)
    is c.put_last.ensures

pub returns-in-Err : goal.returns-in-Err
returns-in-Err c = λ offer frame. one_missed (OfferTo c.args.class offer) c.args.mail.now
