-- Why the laws of held offers hold.
use Rattle.std.proofs.Common.{◌≡◌, ℕ, ◌<◌, Bool, true, false, cond, eqb, eq-eqb, eqb-true, List, []}
use Rattle.std.proofs.Common.{◌∷◌, length, Option, None, Some, inl, inr, refl, sym, subst, ap, ◌∙◌}
use Rattle.std.proofs.Common.{slice_get, arith, max, ltb-true, lt-ltb}
use Rattle.std.specs.Prelude.{IsSomeAnd, IfSome}
use Rattle.std.specs.Int.{bit_at}
use Rattle.std.specs.Option.{option_map_or}
use Rattle.std.proofs.lemmas.Bool.{and_parts, false≢true, le-ltb}
use Rattle.std.proofs.lemmas.Nat.Bits.{same_from_bits}
use Rattle.std.proofs.lemmas.List.Elements.{All-contains}
use Rattle.bip_model.specs.Components.{AreOffered, leaves, offers_at, transition_for}
use Rattle.bip_model.specs.Expressions.{holds}
use Rattle.bip_model.specs.Messages.{IsOfferOf, Shows}
use Rattle.bip_model.specs.Parts.{IsComponent, IsTransitionOf}
use Rattle.bip_model.specs.Sets.{has}
use Rattle.bip_model.specs.States.{IsLocalStateOf}
use Rattle.bip_model.specs.declared.messages.Offer.{Offer}
use Rattle.bip_model.specs.declared.parts.Component.{Component}
use Rattle.bip_model.specs.declared.parts.Transition.{Transition}
use Rattle.bip_model.specs.declared.states.LocalState.{LocalState}
use Rattle.bip_model.specs.declared.numbering.PortId.{PortId}
use Rattle.bip_model.proofs.ListLemmas.{All-slice_get, found_at}
use Rattle.std.specs.Prelude.{◌↔◌, nat_lt, unwrap_or}
use Rattle.std.proofs.lemmas.Bool.Decides.{eqb_tells}
use Rattle.bip_model.specs.Numbering.{put}
use Rattle.bip_observe.specs.Laws.{CountedIsHeld, HeldOnce, OldStaysOld, OneOfferEach, OneReceipt}
use Rattle.bip_observe.specs.Laws.{OwnOffersAreExpected, OwnOffersShow, UsedNumbersDontCount}
use Rattle.bip_observe.specs.Offers.{IsReceipt, Observed, with_held, with_known}
use Rattle.bip_observe.specs.Verdicts.{no_offer}
use Rattle.bip_observe.specs.declared.offers.Receipt.TheVariants.{Held, Old, Stranger}

pub own_offers_show : OwnOffersShow
own_offers_show m s c number local offer at is =
    subst (λ (n : ℕ). IsSomeAnd (s n) (Shows m offer)) (sym is.comp)
    (subst (λ (o : Option LocalState). IsSomeAnd o (Shows m offer)) (sym at) is.shows)

-- two offers that show one local state of one component are on for the same ports
same_ports : (component : Component) (local : LocalState) (x y : ℕ) → AreOffered component local x
    → AreOffered component local y → x ≡ y
same_ports component local x y one other = same_from_bits x y
    (λ i. one (record { 0 = i }) ∙ sym (other (record { 0 = i })))

-- an offer by its parts
abbrev made_of : ℕ → ℕ → ℕ → List ℕ → Offer
made_of c number ports values = record {
  comp = record { 0 = c };
  number = number;
  ports = ports;
  values = values;
}

same_offer : (a b n k p q : ℕ) (u v : List ℕ) → a ≡ b → n ≡ k → p ≡ q → u ≡ v
    → made_of a n p u ≡ made_of b k q v
same_offer a b n k p q u v comps numbers ports values = rw (comps, numbers, ports, values) refl

pub one_offer_each : OneOfferEach
one_offer_each m c number local x y one other =
    let declared : slice_get m.components c ≡ Some one.shows.component =
    rw one.comp at one.shows.declared in
    let declared' : slice_get m.components c ≡ Some other.shows.component =
    rw other.comp at other.shows.declared in
    let same : one.shows.component ≡ other.shows.component = cc in
    let ports = same_ports one.shows.component local x.ports y.ports one.shows.ports
    (rw same other.shows.ports) in
    same_offer x.comp.0 y.comp.0 x.number y.number x.ports y.ports x.values y.values
    (one.comp ∙ sym other.comp) (one.number ∙ sym other.number) ports
    (one.shows.values ∙ sym other.shows.values)

-- a port that is offered is one of the component's
offered_known : (component : Component) (local : LocalState) (p : PortId) → IsComponent component
    → offers_at component local p ≡ true → p.0 < length component.ports
offered_known component local p valid offers =
    by_transition (transition_for component local.location p) refl
    (and_parts (eqb (length local.values) (length component.variables)) _ offers).1
  where
    by_transition : (o : Option Transition) → transition_for component local.location p ≡ o
        → option_map_or (λ (t : Transition). holds t.guard (local.values ∷ [])) o false ≡ true
        → p.0 < length component.ports
    by_transition None found holds = absurd (false≢true holds)
    by_transition (Some t) found holds =
        let here = found_at (leaves local.location p) component.transitions t found in
        let both = and_parts (eqb t.source.0 local.location.0) (eqb t.port.0 p.0) here.1 in
        let known : IsTransitionOf component t =
        All-contains (IsTransitionOf component) component.transitions t valid.so_far.transitions
        here.0 in
        rw (← eqb-true t.port.0 p.0 both.1) known.port

-- so an offer that shows a local state of a component is one that the component can make
pub shown_made : (component : Component) (local : LocalState) (offer : Offer) → IsComponent component
    → IsLocalStateOf component local → AreOffered component local offer.ports
    → offer.values ≡ local.values → IsOfferOf component offer
shown_made component local offer valid own ports values = record {
  values = ap length values ∙ own.values;
  ports = λ p on. offered_known component local (record { 0 = p }) valid
      (by_bit p (offers_at component local (record { 0 = p })) (ports (record { 0 = p })) on);
}
  where
    by_bit : (p : ℕ) (b : Bool) → bit_at offer.ports p ≡ cond b 1 0 → has offer.ports p ≡ true
        → b ≡ true
    by_bit p true is on = refl
    by_bit p false is on = let off : false ≡ true = rw is at on in absurd (false≢true off)

pub own_offers_expected : OwnOffersAreExpected
own_offers_expected p class valid s own c number local offer at is touches =
    let declared : slice_get p.model.components c ≡ Some is.shows.component =
    rw is.comp at is.shows.declared in
    let its : IsLocalStateOf is.shows.component local =
    rw at at (own.components c is.shows.component declared) in
    let sound : IsComponent is.shows.component =
    All-slice_get IsComponent p.model.components c is.shows.component valid.so_far.components
    declared in
    record {
      touched = rw is.comp touches;
      made = rw is.shows.declared (shown_made is.shows.component local offer sound its
          is.shows.ports is.shows.values);
    }

pub one_receipt : OneReceipt
one_receipt v offer Held Held one other = refl
one_receipt v offer Held Old one other = absurd (other.1 one.1)
one_receipt v offer Held Stranger one other = absurd (other one.0)
one_receipt v offer Old Held one other = absurd (one.1 other.1)
one_receipt v offer Old Old one other = refl
one_receipt v offer Old Stranger one other = absurd (other one.0)
one_receipt v offer Stranger Held one other = absurd (one other.0)
one_receipt v offer Stranger Old one other = absurd (one other.0)
one_receipt v offer Stranger Stranger one other = refl

pub held_once : HeldOnce
held_once v offer got =
    let same : eqb offer.comp.0 offer.comp.0 ≡ true = eq-eqb offer.comp.0 offer.comp.0 refl in (
      (
        got.0,
        λ new. let later : offer.number < offer.number = rw same at new.later in
            absurd (omega arith),
      ),
      rw same (lt-ltb (v.known offer.comp.0) offer.number got.1.unused),
    )

pub used_dont_count : UsedNumbersDontCount
used_dont_count v c number offer held within =
    rw (held, eq-eqb c c refl) (le-ltb (max (v.known c) number) offer.number (omega arith))

-- what is held is below what came after it
below_later_one : (o : Option Offer) (n k : ℕ) → IfSome o (λ held. held.number < n) → n < k
    → IfSome o (λ held. held.number < k)
below_later_one None n k below more = tt
below_later_one (Some held) n k below more = omega arith

old_beside_held : (v : Observed) (offer other : Offer) → IsReceipt v offer Old
    → IsReceipt v other Held → IsReceipt (with_held other v) offer Old
old_beside_held v offer other old got = (
  old.0,
  λ new. old.1 (record { unused = new.unused; later = before new.later }),
)
  where
    before : IfSome (put v.held other.comp.0 (Some other) offer.comp.0)
        (λ held. held.number < offer.number) → IfSome (v.held offer.comp.0)
        (λ held. held.number < offer.number)
    before later = elim (eqb_tells offer.comp.0 other.comp.0) [
      | inl same ↦
          let above : other.number < offer.number = rw same.0 at later in
          let its : IfSome (v.held offer.comp.0) (λ held. held.number < other.number) =
          rw same.1 got.1.later in
          below_later_one (v.held offer.comp.0) other.number offer.number its above
      | inr apart ↦ rw apart.0 at later
    ]

old_beside_known : (v : Observed) (offer : Offer) (c number : ℕ) → IsReceipt v offer Old
    → IsReceipt (with_known c number v) offer Old
old_beside_known v offer c number old = (
  old.0,
  λ new. old.1 (record { unused = before new.unused; later = new.later }),
)
  where
    before : put v.known c (max (v.known c) number) offer.comp.0 < offer.number
        → v.known offer.comp.0 < offer.number
    before unused = elim (eqb_tells offer.comp.0 c) [
      | inl same ↦
          let above : max (v.known c) number < offer.number = rw same.0 at unused in
          rw same.1 (omega arith)
      | inr apart ↦ rw apart.0 at unused
    ]

pub old_stays_old : OldStaysOld
old_stays_old v offer old = (
  λ other got. old_beside_held v offer other old got,
  λ c number. old_beside_known v offer c number old,
)

pub counted_is_held : CountedIsHeld
counted_is_held v c = by_held (v.held c) refl
  where
    by_held : (o : Option Offer) → v.held c ≡ o
        → (option_map_or (λ (offer : Offer). nat_lt (v.known c) offer.number) o false ≡ true) ↔
        ((v.held c ≡ Some (unwrap_or o no_offer)) × (v.known c < (unwrap_or o no_offer).number))
    by_held None is = (
      λ none. absurd (false≢true none),
      λ held. let some : None ≡ Some no_offer = sym is ∙ held.0 in absurd (cc),
    )
    by_held (Some offer) is = (
      λ less. (is, ltb-true (v.known c) offer.number less),
      λ held. lt-ltb (v.known c) offer.number held.1,
    )
