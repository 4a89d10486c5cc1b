-- That reasons and wants of a node suffice: by the offers of what is wanted alone, what it asks for
-- or grants is ready.
use Rattle.std.proofs.Common.{◌≡◌, ◌⊎◌, ℕ, true, List, [], get_or, inl, inr, subst, arith}
use Rattle.std.specs.Prelude.{All, Contains}
use Rattle.std.proofs.lemmas.Bool.{cases_Bool}
use Rattle.std.proofs.lemmas.List.Elements.{All-contains, All-nil, Contains-get_or}
use Rattle.bip_model.specs.Parties.{AreReasonsFor, AreWantsBy, HasWantOf, IsWanted}
use Rattle.bip_model.specs.Parts.{Participant}
use Rattle.bip_model.specs.Reasons.{AreNaming}
use Rattle.bip_model.specs.Steps.{IsLookedAt, moves, participants_of}
use Rattle.bip_model.specs.declared.messages.Offer.{Offer}
use Rattle.bip_model.specs.declared.parts.System.{System}
use Rattle.bip_model.specs.declared.reasons.Why.{Why}
use Rattle.bip_model.specs.declared.wants.Role.TheVariants.{Seen}
use Rattle.bip_model.specs.declared.wants.Want.{Want}
use Rattle.bip_model.proofs.PartyLemmas.{moving_is_wanted, moved_or_seen, touches_above}
use Rattle.bip_partition.proofs.LawLemmas.{local_alone}
use Rattle.bip_partition.proofs.ReasonLemmas.{for_explains}
use Rattle.bip_observe.specs.Laws.{IsSound}
use Rattle.bip_observe.specs.Offers.{Observed}
use Rattle.bip_observe.specs.Verdicts.{AreReasonsBy, OfferCounts, Exclude, IsTrueOf, offers_of}
use Rattle.bip_observe.proofs.ReasonLemmas.{reasons_sound, reasons_suffice}
use Rattle.bip_observe.proofs.ShowLemmas.{moves_each}
use Rattle.bip_ip.specs.Laws.{AskedSuffices, LocalSuffices, Suffice}
use Rattle.bip_ip.specs.Nodes.{AreWanted, CanBeAsked, ClassNode}

-- what is wanted is moved, or reasons name it
wanted_why : (m : System) (o : ℕ → Offer) (a : ℕ) (reasons : List Why) (wants : List Want)
    → AreWantsBy m o a reasons wants → (c : ℕ) → HasWantOf wants c → (moves m a c ≡ true)
    ⊎ AreNaming m reasons c
wanted_why m o a reasons wants by c has =
    let at : Contains wants has.1 = (has.0, has.2, has.3) in
    elim (moved_or_seen wants has.1 at) [
      | inl moved ↦ inl ((by.parties.moved c).0 (has.0, has.1, has.2, has.3, (has.4, moved)))
      | inr seen ↦ inr ((by.named c).0 (subst (IsWanted Seen wants) has.4 seen)).1
    ]

-- and what reasons name is wanted
named_is_wanted : (m : System) (o : ℕ → Offer) (a : ℕ) (reasons : List Why) (wants : List Want)
    → AreWantsBy m o a reasons wants → (c : ℕ) → AreNaming m reasons c → HasWantOf wants c
named_is_wanted m o a reasons wants by c named = elim (cases_Bool (moves m a c)) [
  | inl on ↦ moving_is_wanted m a wants by.parties c on
  | inr off ↦ let at = (by.named c).1 (off, named) in (at.0, at.1, at.2, at.3, at.4.0)
]

pub suffice_by : (v : ClassNode) (a : ℕ) (reasons : List Why) (wants : List Want) → CanBeAsked v a
    → AreReasonsBy v.offers a reasons → AreWanted v a reasons wants → Suffice v a reasons wants
suffice_by v a reasons wants can because by =
    let m = v.offers.plan.model in
    let o = offers_of v.offers in
    let sound = reasons_sound v.offers a reasons can.ready because in
    let counted : (c : ℕ) → HasWantOf wants c → OfferCounts v.offers c =
    λ c has. elim (wanted_why m o a reasons wants by c has) [
      | inl on ↦ can.ready.moved c on
      | inr named ↦ ((All-contains (IsSound v.offers a) reasons named.1 sound
          (named.0, named.2, named.3)).named c named.4).1
    ] in
    let are : AreReasonsFor m a wants reasons = record {
      each = because.each;
      borne = λ k d within c named.
          let y = get_or reasons k d in
          let at = Contains-get_or reasons k d within in (
            ((sound k d within).named c named).0,
            named_is_wanted m o a reasons wants by c (at.0, y, at.1, at.2, named),
          );
    } in
    let so : All (λ (y : Why). IsTrueOf m o y.inter.0 y.cause) reasons =
    λ k d within. (sound k d within).so in
    record {
      explained = for_explains m a wants reasons are;
      so = so;
      counted = counted;
      ready =
          reasons_suffice m o a wants reasons can.own.declared by.parties are so can.ready.enabled
          (λ c has. can.ready.own c (counted c has));
    }

pub asked_suffices : AskedSuffices
asked_suffices v a q tried = suffice_by v a q.reasons q.wants tried.0 tried.3.reasons tried.3.wants

-- where all participants of an interaction are wanted, the offers of what is wanted exclude it as
-- those that count do
exclude_by : (v : Observed) (wants : List Want) (b : ℕ)
    → ((c : ℕ) → moves v.plan.model b c ≡ true → HasWantOf wants c)
    → Exclude v.plan.model (offers_of v) (OfferCounts v) b
    → Exclude v.plan.model (offers_of v) (HasWantOf wants) b
exclude_by v wants b all exclude = elim exclude [
  | inl at ↦
      let on = All-contains (λ (r : Participant). moves v.plan.model b r.0.0 ≡ true)
      (participants_of v.plan.model b) at.1 (moves_each v.plan.model b) (at.0, at.2, at.3) in
      inl (at.0, at.1, at.2, at.3, (all at.1.0.0 on, at.4.1))
  | inr both ↦ inr (λ k d within. all _ (moves_each v.plan.model b k d within), both.1)
]

pub local_suffices : LocalSuffices
local_suffices v a g notifies tried =
    let can = tried.0 in
    let by = tried.3 in
    let m = v.offers.plan.model in
    let o = offers_of v.offers in
    let none : (c : ℕ) → ¬ IsLookedAt m a c = λ c. local_alone v.offers.plan a c tried.1 in
    let counted : (c : ℕ) → HasWantOf g.wants c → OfferCounts v.offers c =
    λ c has. elim (wanted_why m o a [] g.wants by c has) [
      | inl on ↦ can.ready.moved c on
      | inr named ↦ absurd (omega (arith, named.2))
    ] in
    record {
      explained = λ c looked. absurd (none c looked);
      so = All-nil (λ (y : Why). IsTrueOf m o y.inter.0 y.cause);
      counted = counted;
      ready = record {
        declared = can.own.declared;
        moved = moving_is_wanted m a g.wants by.parties;
        own = λ c has. can.ready.own c (counted c has);
        enabled = can.ready.enabled;
        clear = λ b above.
            let all : (c : ℕ) → moves m b c ≡ true → HasWantOf g.wants c =
            λ c takes. elim (touches_above m a b c above takes) [
              | inl on ↦ moving_is_wanted m a g.wants by.parties c on
              | inr looked ↦ absurd (none c looked)
            ] in
            exclude_by v.offers g.wants b all (can.ready.clear b above);
      };
    }
