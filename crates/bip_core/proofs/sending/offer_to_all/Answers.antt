use Rattle.std.proofs.Common.{map}
use Rattle.std.proofs.lemmas.List.{length-map}
use Rattle.bip_core.specs.declared.messages.Message.TheVariants.{OfferTo}
use Rattle.bip_core.proofs.SendLemmas.{all_missed}
use Rattle.bip_core.proofs.sending.offer_to_all.Goals as goal

pub returns-in-Err : goal.returns-in-Err
returns-in-Err c =
    let missed = all_missed (map (λ k. OfferTo k c.args.offer.now) c.args.classes.now)
    c.args.mail.now in
    simp length-map at missed
