use Rattle.std.proofs.Common.{ap, subst, sym, ◌∙◌}
use Rattle.bip_model.specs.declared.numbering.ClassId.{ClassId}
use Rattle.bip_frame.specs.Frames.{IsFrame, of_offer}
use Rattle.bip_frame.specs.Views.{offer_shown}
use Rattle.bip_frame.proofs.ReadingLemmas.{one_message}
use Rattle.bip_core.specs.Letters.{as_spelled}
use Rattle.bip_core.specs.declared.messages.Message.{Message}
use Rattle.bip_core.specs.declared.messages.Message.TheVariants.{OfferTo}
use Rattle.bip_core.proofs.LetterLemmas.{is_offer}
use Rattle.bip_core.proofs.letters.Letter.message.Goals as goal

pub returns-in-Ok-Offer : goal.returns-in-Ok-Offer
returns-in-Ok-Offer c =
    let offer = offer_shown c.in-Ok-Offer.offer in
    let bytes = c.self.inside.frame in
    let found : IsFrame (of_offer offer) bytes =
    rw (c.in-Ok-Offer.field-0-is, c.as_slice.ensures) at c.in-Ok-Offer.ensures.found in
    let own : IsFrame (as_spelled c.args.self.now) bytes =
    subst (λ (m : Message). IsFrame (as_spelled m) bytes) c.self.view_is
    c.self.invariant.frame in
    let its = is_offer c.args.self.now offer (one_message (of_offer offer)
    (as_spelled c.args.self.now) bytes found own) in
    ap (λ (k : ClassId). OfferTo k c.offer.result) (c.class.ensures its.0 offer its.1)
    ∙ (ap (OfferTo its.0) c.offer.ensures ∙ sym its.1)
