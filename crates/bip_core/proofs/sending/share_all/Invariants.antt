use Rattle.std.proofs.Common.{map, take}
use Rattle.bip_model.specs.declared.messages.Offer.{Offer}
use Rattle.bip_frame.specs.Frames.{IsFrame, of_offer}
use Rattle.bip_core.specs.Events.{ArePut}
use Rattle.bip_core.specs.declared.messages.Message.TheVariants.{OfferTo}
use Rattle.bip_core.proofs.sending.share_all.Given as goal

abbrev pub invariant-loop-class : goal.invariant-loop-class
invariant-loop-class l = (offer : Offer) → IsFrame (of_offer offer) l.frame
    → ArePut (map (λ k. OfferTo k offer) (take l.class-index l.classes)) l.lost l.initial.mail
    l.mail
