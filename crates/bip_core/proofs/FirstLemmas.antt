-- What is in flight at first: the first offer of each component, to each class that touches it.
use Rattle.std.proofs.Common.{zero, suc, ◌≡◌, ◌∙◌, ◌+◌, ◌<◌, ◌≤◌, ℕ, Bool, true, false, cond}
use Rattle.std.proofs.Common.{List, [], ◌∷◌, Option, Some, length, map, refl, sym, ap}
use Rattle.std.proofs.Common.{subst, inl, inr, eqb-true, arith}
use Rattle.std.specs.Prelude.{◌==◌}
use Rattle.std.specs.List.Sorted.{IsStrictlyIncreasing}
use Rattle.std.proofs.lemmas.Bool.{and_parts, cases_Bool, cases_eq, cond-false, cond-true}
use Rattle.std.proofs.lemmas.List.Recursion.{is_count_by}
use Rattle.std.proofs.lemmas.Option.{same_Some}
use Rattle.bip_model.specs.Messages.{IsOfferIn}
use Rattle.bip_model.specs.declared.messages.Offer.{Offer}
use Rattle.bip_model.specs.declared.numbering.ClassId.{ClassId}
use Rattle.bip_model.proofs.ListLemmas.{below_later}
use Rattle.bip_model.proofs.NumberingLemmas.{increasing_tail}
use Rattle.bip_partition.specs.Plans.{ClassTouches, Planned}
use Rattle.bip_observe.proofs.OfferLemmas.{one_offer_each}
use Rattle.bip_component.specs.Components.{IsOffered, Node}
use Rattle.bip_core.specs.Laws.{FirstOffersAreSent, is_offer_to}
use Rattle.bip_core.specs.Lists.{In, count}
use Rattle.bip_core.specs.Starting.{AreOffersBelow, IsFirstComponent}
use Rattle.bip_core.specs.declared.messages.Message.{Message}
use Rattle.bip_core.specs.declared.messages.Message.TheVariants.{OfferTo}
use Rattle.bip_core.proofs.ListLemmas.{Contains-in, count-append, count-none, in-Contains, in-back}
use Rattle.bip_core.proofs.ListLemmas.{in-front, in-map, in-place, in-split, map-in}

module _ (p : Planned) (base : ℕ) (nodes : ℕ → Option Node)
    (first : (c : ℕ) → IsFirstComponent p base c (nodes c)) where
  -- the node that stands at a component's place is that component's
  its_place : (c : ℕ) (node : Node) → nodes c ≡ Some node → node.comp ≡ c
  its_place c node here = (subst (IsFirstComponent p base c) here (first c)).1.comp

  -- and its component is one of the model
  known : (c : ℕ) (node : Node) → nodes c ≡ Some node → c < length p.model.components
  known c node here = (subst (IsFirstComponent p base c) here (first c)).0

  offer_place : (c : ℕ) (node : Node) (offer : Offer) → nodes c ≡ Some node
      → IsOffered node (Some offer) → offer.comp.0 ≡ c
  offer_place c node offer here offered = offered.1.comp ∙ its_place c node here

  -- what is in flight is the first offer of a component below a number
  record IsOfferBelow (n : ℕ) (m : Message) : Type 0 where
    class : ClassId
    offer : Offer
    node : Node
    is : m ≡ OfferTo class offer
    here : nodes offer.comp.0 ≡ Some node
    offered : IsOffered node (Some offer)
    touches : ClassTouches p class.0 offer.comp.0
    below : offer.comp.0 < n

  below_are : (n : ℕ) (messages : List Message) → AreOffersBelow n p nodes messages
      → (m : Message) → In m messages → IsOfferBelow n m
  below_are zero messages none m i = absurd (subst (In m) none i)
  below_are (suc c) messages (node, offer, before, last, here, offered, to, rest, whole) m i =
      elim (in-split m before last (subst (In m) whole i)) [
        | inl j ↦
            let its = below_are c before rest m j in
            record {
              class = its.class;
              offer = its.offer;
              node = its.node;
              is = its.is;
              here = its.here;
              offered = its.offered;
              touches = its.touches;
              below = let b = its.below in omega arith;
            }
        | inr j ↦
            let k =
            in-map (λ (k : ClassId). OfferTo k offer) to.classes m (subst (In m) to.each j) in
            let place = offer_place c node offer here offered in
            record {
              class = k.0;
              offer = offer;
              node = node;
              is = k.2;
              here = ap nodes place ∙ here;
              offered = offered;
              touches = (to.touching.exact k.0.0).0 (in-Contains to.classes k.0 k.1);
              below = omega (arith, place);
            }
      ]

  -- and each of them is in flight
  are_below : (n : ℕ) (messages : List Message) → AreOffersBelow n p nodes messages
      → (m : Message) → IsOfferBelow n m → In m messages
  are_below zero messages none m its = absurd (let b = its.below in omega arith)
  are_below (suc c) messages (node, offer, before, last, here, offered, to, rest, whole) m its =
      subst (In m) (sym whole) (elim (cases_eq its.offer.comp.0 c) [
        | inl same ↦
            in-back m before last (subst (λ (x : Message). In x last) (sym its.is) (mine same))
        | inr other ↦ in-front m before last (are_below c before rest m (record {
          class = its.class;
          offer = its.offer;
          node = its.node;
          is = its.is;
          here = its.here;
          offered = its.offered;
          touches = its.touches;
          below = let b = its.below in omega (arith, other);
        }))
      ])
    where
      mine : its.offer.comp.0 ≡ c → In (OfferTo its.class its.offer) last
      mine same =
          let place = offer_place c node offer here offered in
          let there : its.node ≡ node =
          same_Some its.node node (sym its.here ∙ (ap nodes same ∙ here)) in
          let theirs : IsOfferIn node.plan.model node.comp node.number node.local its.offer =
          (subst (λ (x : Node). IsOffered x (Some its.offer)) there its.offered).1 in
          let one : its.offer ≡ offer =
          one_offer_each node.plan.model node.comp node.number node.local its.offer offer theirs
          offered.1 in
          let touches : ClassTouches p its.class.0 offer.comp.0 =
          subst (λ (x : Offer). ClassTouches p its.class.0 x.comp.0) one its.touches in
          subst (In (OfferTo its.class its.offer)) (sym to.each)
          (subst (λ (x : Offer). In (OfferTo its.class x)
          (map (λ (k : ClassId). OfferTo k offer) to.classes)) (sym one)
          (map-in (λ (k : ClassId). OfferTo k offer) to.classes its.class
          (Contains-in to.classes its.class ((to.touching.exact its.class.0).1 touches))))

  -- an offer goes to each class of a rising list once
  once_each : (k c : ℕ) (offer : Offer) (ks : List ClassId)
      → IsStrictlyIncreasing (map (λ (k : ClassId). k.0) ks)
      → count (is_offer_to k c) (map (λ (l : ClassId). OfferTo l offer) ks) ≤ 1
  once_each k c offer [] rising = omega arith
  once_each k c offer (l ∷ ks) rising =
      elim (cases_Bool (is_offer_to k c (OfferTo l offer))) [
        | inl is ↦
            let here : cond {A = ℕ} (is_offer_to k c (OfferTo l offer)) 1 0 ≡ 1 =
            cond-true _ 1 0 is in
            let at = eqb-true l.0 k (and_parts (l.0 == k) (offer.comp.0 == c) is).0 in
            let rest =
            count-none (is_offer_to k c) (map (λ (l : ClassId). OfferTo l offer) ks) (later at) in
            omega (arith, here, rest)
        | inr not_this ↦
            let here : cond {A = ℕ} (is_offer_to k c (OfferTo l offer)) 1 0 ≡ 0 =
            cond-false _ 1 0 not_this in
            let rest =
            once_each k c offer ks (increasing_tail l.0 (map (λ (k : ClassId). k.0) ks) rising) in
            omega (arith, here, rest)
      ]
    where
      later : l.0 ≡ k → (m : Message) → In m (map (λ (l : ClassId). OfferTo l offer) ks)
          → ¬ (is_offer_to k c m ≡ true)
      later at m i is =
          let j = in-map (λ (l : ClassId). OfferTo l offer) ks m i in
          let there = subst (λ (x : Message). is_offer_to k c x ≡ true) j.2 is in
          let same = eqb-true j.0.0 k (and_parts (j.0.0 == k) (offer.comp.0 == c) there).0 in
          let r = in-place j.0 ks j.1 in
          let above : l.0 < j.0.0 = subst (λ (x : ClassId). l.0 < x.0) (r.2 j.0)
          (below_later (λ (x : ClassId). x.0) (l ∷ ks) rising 0 (suc r.0) j.0 (omega arith)
          (omega (arith, r.1))) in
          absurd (omega (arith, above, same, at))

  -- so each is in flight once
  below_once : (k c n : ℕ) (messages : List Message) → AreOffersBelow n p nodes messages
      → count (is_offer_to k c) messages ≤ 1
  below_once k c zero messages none =
      subst (λ (ms : List Message). count (is_offer_to k c) ms ≤ 1) (sym none) (omega arith)
  below_once k c (suc d) messages (node, offer, before, last, here, offered, to, rest, whole) =
      subst (λ (ms : List Message). count (is_offer_to k c) ms ≤ 1) (sym whole)
      (let both = count-append (is_offer_to k c) before last in elim (cases_eq d c) [
        | inl same ↦
            let none = count-none (is_offer_to k c) before (earlier same) in
            let once = subst (λ (ms : List Message). count (is_offer_to k c) ms ≤ 1) (sym to.each)
            (once_each k c offer to.classes to.touching.rising) in
            omega (arith, both, none, once)
        | inr other ↦
            let once = below_once k c d before rest in
            let none = count-none (is_offer_to k c) last (elsewhere other) in
            omega (arith, both, none, once)
      ])
    where
      named : (m : Message) (o : Offer) (l : ClassId) → m ≡ OfferTo l o
          → is_offer_to k c m ≡ true → o.comp.0 ≡ c
      named m o l is passes =
          let there = subst (λ (x : Message). is_offer_to k c x ≡ true) is passes in
          eqb-true o.comp.0 c (and_parts (l.0 == k) (o.comp.0 == c) there).1

      earlier : d ≡ c → (m : Message) → In m before → ¬ (is_offer_to k c m ≡ true)
      earlier same m i passes =
          let its = below_are d before rest m i in
          absurd (let b = its.below in
          omega (arith, named m its.offer its.class its.is passes, same))

      elsewhere : ¬ (d ≡ c) → (m : Message) → In m last → ¬ (is_offer_to k c m ≡ true)
      elsewhere other m i passes =
          let j = in-map (λ (k : ClassId). OfferTo k offer) to.classes m (subst (In m) to.each i) in
          other (sym (offer_place d node offer here offered) ∙ named m offer j.0 j.2 passes)

one_more : (b : Bool) (n : ℕ) → cond b 1 0 + n ≡ cond b (1 + n) n
one_more true n = refl
one_more false n = omega arith

pub first_offers_are_sent : FirstOffersAreSent
first_offers_are_sent p base w new = (
  λ m. (
    λ at.
        let its =
        below_are p base w.components new.components n w.mail new.mail m
        (Contains-in w.mail m at) in
        record {
          class = its.class;
          offer = its.offer;
          node = its.node;
          is = its.is;
          here = its.here;
          offered = its.offered;
          touches = subst (λ (q : Planned). ClassTouches q its.class.0 its.offer.comp.0)
              (sym new.plan) its.touches;
        },
    λ its. in-Contains w.mail m
        (are_below p base w.components new.components n w.mail new.mail m (record {
          class = its.class;
          offer = its.offer;
          node = its.node;
          is = its.is;
          here = its.here;
          offered = its.offered;
          touches = subst (λ (q : Planned). ClassTouches q its.class.0 its.offer.comp.0)
              new.plan its.touches;
          below = known p base w.components new.components its.offer.comp.0 its.node its.here;
        })),
  ),
  λ k c.
      subst (λ (x : ℕ). x ≤ 1) (is_count_by (count (is_offer_to k c)) (is_offer_to k c) refl
      (λ m ms. one_more (is_offer_to k c m) (count (is_offer_to k c) ms)) w.mail)
      (below_once p base w.components new.components k c n w.mail new.mail),
)
  where
    n : ℕ
    n = length p.model.components
