use Rattle.std.proofs.Common.{◌≡◌, Some, arith, map, refl, slice_get}
use Rattle.std.proofs.lemmas.List.Elements.{All-append}
use Rattle.bip_core.specs.Letters.{CanBeHandedOn, CanBeOffered}
use Rattle.bip_core.specs.Worlds.{AreOffersOf}
use Rattle.bip_core.specs.declared.messages.Message.TheVariants.{OfferTo}
use Rattle.bip_core.proofs.FitLemmas.{first_fits}
use Rattle.bip_core.proofs.LetterLemmas.{offered_here, offers_accepted}
use Rattle.bip_core.proofs.StartLemmas.{offers_more, put_whole}
use Rattle.bip_core.proofs.WorldLemmas.{read_here}
use Rattle.bip_core.proofs.starting.first_offers.Goals as goal

pub offer_to_all-requires : goal.offer_to_all-requires
offer_to_all-requires c =
    let node = c.component-item.result in
    let k = c.loop-component.component-index in
    let here = read_here c.args.components.now k node c.loop-component-test.true
    c.component-item.is in
    (first_fits c.args.plan.now c.args.base c.args.components.now k node c.in-Some.offer
    c.recall.ensures.valid c.requires here c.recall-in-loop-component.ensures
    c.in-Some.ensures).some

pub classes_of-requires : goal.classes_of-requires
classes_of-requires c =
    let node = c.component-item.result in
    let k = c.loop-component.component-index in
    let here = read_here c.args.components.now k node c.loop-component-test.true
    c.component-item.is in
    offered_here c.args.plan.now c.in-Some.offer
    (first_fits c.args.plan.now c.args.base c.args.components.now k node c.in-Some.offer
    c.recall.ensures.valid c.requires here c.recall-in-loop-component.ensures c.in-Some.ensures)

pub loop-component-preserved : goal.loop-component-preserved
loop-component-preserved c =
    let node = c.component-item.result in
    let sent = map (λ k. OfferTo k c.in-Some.offer) c.classes_of.result.now in
    let here : slice_get c.args.components.now c.loop-component.component-index ≡ Some node =
    read_here c.args.components.now c.loop-component.component-index node
    c.loop-component-test.true c.component-item.is in
    let none : c.offer_to_all.result ≡ 0 = omega (arith, c.if-offer_to_all-gt0.false) in
    let of_all : AreOffersOf c.args.plan.now c.in-Some.offer sent =
    record {
      classes = c.classes_of.result.now;
      touching = c.classes_of.ensures;
      each = refl;
    } in
    let can : CanBeOffered c.args.plan.now c.in-Some.offer =
    first_fits c.args.plan.now c.args.base c.args.components.now
    c.loop-component.component-index node c.in-Some.offer c.recall.ensures.valid c.requires here
    c.recall-in-loop-component.ensures c.in-Some.ensures in
    rw (put_whole sent c.loop-component.mail c.offer_to_all.new.mail c.offer_to_all.result none
    c.offer_to_all.ensures) (
      offers_more c.loop-component.component-index c.args.plan.now (λ k. slice_get
          c.args.components.now k) node c.in-Some.offer c.loop-component.mail sent here
          c.in-Some.ensures of_all c.loop-component.invariant.0,
      All-append
          (CanBeHandedOn c.args.plan.now) c.loop-component.mail sent c.loop-component.invariant.1
          (offers_accepted c.args.plan.now c.in-Some.offer sent can of_all),
    )
