-- What the definitions mean, in the subject's own words: laws that a reviewer reads.
use Rattle.std.specs.Prelude.{◌≡◌, ◌↔◌, ℕ, ◌<◌, ◌≤◌, Bool, false, true, List, Some, ⊤, length, map}
use Rattle.std.specs.Prelude.{All, Any, IsTrue}
use Rattle.bip_model.specs.Expressions.{holds}
use Rattle.bip_model.specs.Messages.{IsOfferIn, ShowsState}
use Rattle.bip_model.specs.Parties.{AreParties, AreReasonsFor, HasWantOf}
use Rattle.bip_model.specs.Priorities.{HasAbove}
use Rattle.bip_model.specs.Reasons.{IsNamedBy}
use Rattle.bip_model.specs.declared.reasons.Why.{Why}
use Rattle.bip_model.specs.declared.wants.Want.{Want}
use Rattle.bip_model.specs.Numbering.{IsLowest}
use Rattle.bip_model.specs.Parts.{IsSystem, Participant}
use Rattle.bip_model.specs.States.{IsStateOf, State}
use Rattle.bip_model.specs.Steps.{IsEnabled, IsLowestAbove, MayRun, guard_of, moves, offered}
use Rattle.bip_model.specs.Steps.{participants_of, values_of}
use Rattle.bip_model.specs.declared.messages.Offer.{Offer}
use Rattle.bip_model.specs.declared.parts.System.{System}
use Rattle.bip_model.specs.declared.states.LocalState.{LocalState}
use Rattle.bip_partition.specs.Plans.{ClassTouches, Planned, Touches}
use Rattle.bip_observe.specs.Offers.{AreOwn, IsExpected, IsReceipt, Observed, with_held, with_known}
use Rattle.bip_observe.specs.Verdicts.{AreReasonsBy, Enable, IsReady, IsTrueOf, IsVerdict}
use Rattle.bip_observe.specs.Verdicts.{OfferCounts, is_counted, offers_of}
use Rattle.bip_observe.specs.declared.offers.Receipt.{Receipt}
use Rattle.bip_observe.specs.declared.offers.Receipt.TheVariants.{Held, Old}
use Rattle.bip_observe.specs.declared.verdicts.Verdict.{Verdict}
use Rattle.bip_observe.specs.declared.verdicts.Verdict.TheVariants.{Ready, NotReady, PortOff}
use Rattle.bip_observe.specs.declared.verdicts.Verdict.TheVariants.{GuardFalse, Below}

-- what a component offers in its local state shows the state
abbrev pub OwnOffersShow : Type 0
OwnOffersShow =
    (m : System) (s : State) (c number : ℕ) (local : LocalState) (offer : Offer)
    → s c ≡ Some local → IsOfferIn m c number local offer → ShowsState m s offer

-- in a local state a component has one offer as its move of a number
abbrev pub OneOfferEach : Type 0
OneOfferEach =
    (m : System) (c number : ℕ) (local : LocalState) (x y : Offer)
    → IsOfferIn m c number local x → IsOfferIn m c number local y → x ≡ y

-- in a state of the model it is no stranger's to a class that touches the component
abbrev pub OwnOffersAreExpected : Type 0
OwnOffersAreExpected =
    (p : Planned) (class : ℕ) → IsSystem p.model → (s : State) → IsStateOf p.model s
    → (c number : ℕ) (local : LocalState) (offer : Offer) → s c ≡ Some local
    → IsOfferIn p.model c number local offer → ClassTouches p class c
    → IsExpected p class offer

-- an offer has no two receipts
abbrev pub OneReceipt : Type 0
OneReceipt =
    (v : Observed) (offer : Offer) (r t : Receipt) → IsReceipt v offer r → IsReceipt v offer t
    → r ≡ t

-- an offer that was held just now is old, and counts
abbrev pub HeldOnce : Type 0
HeldOnce =
    (v : Observed) (offer : Offer) → IsReceipt v offer Held
    → IsReceipt (with_held offer v) offer Old
    × (is_counted (with_held offer v) offer.comp.0 ≡ true)

-- what is old stays old, whatever is held or learned then
abbrev pub OldStaysOld : Type 0
OldStaysOld =
    (v : Observed) (offer : Offer) → IsReceipt v offer Old
    → ((other : Offer) → IsReceipt v other Held → IsReceipt (with_held other v) offer Old)
    × ((c number : ℕ) → IsReceipt (with_known c number v) offer Old)

-- an offer counts where it is held, and its number is above the known used one
abbrev pub CountedIsHeld : Type 0
CountedIsHeld =
    (v : Observed) (c : ℕ) → IsTrue (is_counted v c)
    ↔ ((v.held c ≡ Some (offers_of v c)) × (v.known c < (offers_of v c).number))

-- an offer whose number is known to be used doesn't count
abbrev pub UsedNumbersDontCount : Type 0
UsedNumbersDontCount =
    (v : Observed) (c number : ℕ) (offer : Offer) → v.held c ≡ Some offer
    → offer.number ≤ number → is_counted (with_known c number v) c ≡ false

-- the offers of these components show a state
abbrev pub AllShow : System → (ℕ → Offer) → (ℕ → Type 0) → State → Type 0
AllShow m o of s = (c : ℕ) → of c → ShowsState m s (o c)

-- a component of a set
abbrev pub IsInSet : (ℕ → Bool) → ℕ → Type 0
IsInSet set c = set c ≡ true

-- by offers of some components that show a state an interaction is ready only where it may run
-- there
abbrev pub ReadyMeansMayRun : Type 0
ReadyMeansMayRun =
    (m : System) (o : ℕ → Offer) (set : ℕ → Bool) (s : State) (a : ℕ) → IsReady m o (IsInSet set) a
    → AllShow m o (IsInSet set) s → MayRun m s a

-- and where it may run there it is ready, by the own offers of all components that it touches
abbrev pub MayRunMeansReady : Type 0
MayRunMeansReady =
    (m : System) → IsSystem m → (o : ℕ → Offer) (s : State) (a : ℕ)
    → ((c : ℕ) → Touches m a c → (o c).comp.0 ≡ c) → AllShow m o (Touches m a) s → MayRun m s a
    → IsReady m o (Touches m a) a

-- a reason of a class for an interaction that is ready: it is for one above; what it names are
-- participants of that one, of which the offers count; and it is true of these
pub record IsSound (v : Observed) (a : ℕ) (y : Why) : Type 0 where
  pub above : HasAbove v.plan.model.priorities a y.inter.0
  pub named : (c : ℕ) → IsNamedBy v.plan.model y.inter.0 y.cause c
      → (moves v.plan.model y.inter.0 c ≡ true) × OfferCounts v c
  pub so : IsTrueOf v.plan.model (offers_of v) y.inter.0 y.cause

abbrev pub ReasonsAreSound : Type 0
ReasonsAreSound =
    (v : Observed) (a : ℕ) (reasons : List Why) → IsVerdict v a Ready → AreReasonsBy v a reasons
    → All (IsSound v a) reasons

-- by what an interaction moves, and what true reasons for it name, it is ready: the offers of
-- other components don't matter
abbrev pub ReasonsSuffice : Type 0
ReasonsSuffice =
    (m : System) (o : ℕ → Offer) (a : ℕ) (wants : List Want) (reasons : List Why)
    → a < length m.interactions → AreParties m a wants → AreReasonsFor m a wants reasons
    → All (λ (y : Why). IsTrueOf m o y.inter.0 y.cause) reasons → Enable m o a
    → ((c : ℕ) → HasWantOf wants c → (o c).comp.0 ≡ c) → IsReady m o (HasWantOf wants) a

-- the reasons of a class for an interaction are one list, at most
abbrev pub OneReasonsEach : Type 0
OneReasonsEach =
    (v : Observed) (a : ℕ) (xs ys : List Why) → AreReasonsBy v a xs → AreReasonsBy v a ys → xs ≡ ys

-- the offers of all components that an interaction moves are their own
abbrev pub MovedAreOwn : System → (ℕ → Offer) → ℕ → Type 0
MovedAreOwn m o a = (c : ℕ) → moves m a c ≡ true → (o c).comp.0 ≡ c

-- and show a state
abbrev pub MovedShow : System → (ℕ → Offer) → State → ℕ → Type 0
MovedShow m o s a = (c : ℕ) → moves m a c ≡ true → ShowsState m s (o c)

-- then they give the participants the values that they have there
abbrev pub OfferedValues : Type 0
OfferedValues =
    (m : System) (o : ℕ → Offer) (s : State) (a : ℕ) → MovedAreOwn m o a → MovedShow m o s a
    → map (λ (q : Participant). (o q.0.0).values) (participants_of m a) ≡ values_of m s a

-- a component whose port for an interaction isn't offered in a state
abbrev pub IsNotOffered : System → State → ℕ → ℕ → Type 0
IsNotOffered m s a c =
    Any (λ (q : Participant). (q.0.0 ≡ c) × (offered m s q ≡ false)) (participants_of m a)

-- what a verdict says of the state that the offers show: this is the lowest component whose port
-- isn't offered; all are, but the guard doesn't hold; this is the lowest enabled one above; the
-- interaction may run
abbrev pub SaysOf : System → State → ℕ → Verdict → Type 0
SaysOf m s a (NotReady c) = ⊤
SaysOf m s a (PortOff c) = IsLowest (IsNotOffered m s a) c.0
SaysOf m s a GuardFalse =
    All (λ q. IsTrue (offered m s q)) (participants_of m a)
    × (holds (guard_of m a) (values_of m s a) ≡ false)
SaysOf m s a (Below b) = IsEnabled m s a × IsLowestAbove m s a b.0
SaysOf m s a Ready = MayRun m s a

-- each offer that is held and counts shows a state
abbrev pub CountedShow : Observed → State → Type 0
CountedShow v s =
    (c : ℕ) (offer : Offer) → v.held c ≡ Some offer → v.known c < offer.number
    → ShowsState v.plan.model s offer

-- where the offers that count show a state, a verdict is true of it
abbrev pub VerdictsAreTrue : Type 0
VerdictsAreTrue =
    (v : Observed) → IsSystem v.plan.model → AreOwn v → (s : State) → CountedShow v s
    → (a : ℕ) → a < length v.plan.model.interactions → (w : Verdict) → IsVerdict v a w
    → SaysOf v.plan.model s a w

-- each verdict excludes the others
abbrev pub OneVerdict : Type 0
OneVerdict =
    (v : Observed) (a : ℕ) (w x : Verdict) → IsVerdict v a w → IsVerdict v a x → w ≡ x

-- and one of them holds
abbrev pub SomeVerdict : Type 0
SomeVerdict =
    (v : Observed) → IsSystem v.plan.model → AreOwn v → (a : ℕ)
    → a < length v.plan.model.interactions → (w : Verdict) × IsVerdict v a w
