use Rattle.bip_observe.proofs.OfferLemmas.{counted_is_held, held_once, old_stays_old}
use Rattle.bip_observe.proofs.OfferLemmas.{one_offer_each, one_receipt, own_offers_expected}
use Rattle.bip_observe.proofs.OfferLemmas.{own_offers_show, used_dont_count}
use Rattle.bip_observe.proofs.laws.offer_laws.Goals as goal

pub returns : goal.returns
returns c = record {
  show = own_offers_show;
  one = one_offer_each;
  expected = own_offers_expected;
  receipt = one_receipt;
  once = held_once;
  old = old_stays_old;
  counted = counted_is_held;
  used =
      used_dont_count;
}
