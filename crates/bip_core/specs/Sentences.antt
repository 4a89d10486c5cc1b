-- How a world agrees with its trace, in six parts. Throughout, u has the used numbers of the trace
-- above the base, and s is the state to which the trace leads from the model's start.
use Rattle.std.specs.Prelude.{◌≡◌, ℕ, ◌+◌, ◌<◌, ◌≤◌, ◌⊎◌, All, false, length, true, Some}
use Rattle.bip_model.specs.Grants.{MovesOnceEach}
use Rattle.bip_model.specs.Messages.{ShowsState}
use Rattle.bip_model.specs.Numbering.{last_number}
use Rattle.bip_model.specs.Parties.{HasWantOf}
use Rattle.bip_model.specs.Partitions.{class_in}
use Rattle.bip_model.specs.States.{State}
use Rattle.bip_model.specs.Steps.{MayRun, after, moves}
use Rattle.bip_model.specs.Wants.{IsFresh, moved_in}
use Rattle.bip_model.specs.declared.grants.Grant.{Grant}
use Rattle.bip_model.specs.declared.messages.Notify.{Notify}
use Rattle.bip_model.specs.declared.messages.Offer.{Offer}
use Rattle.bip_model.specs.declared.messages.Reply.{Reply}
use Rattle.bip_model.specs.declared.messages.Request.{Request}
use Rattle.bip_model.specs.declared.numbering.ClassId.{ClassId}
use Rattle.bip_model.specs.declared.parts.System.{System}
use Rattle.bip_model.specs.declared.reasons.Why.{Why}
use Rattle.bip_model.specs.declared.wants.Want.{Want}
use Rattle.bip_partition.specs.Laws.{IsPlanned}
use Rattle.bip_partition.specs.Plans.{IsFit, IsTabled, Planned, Touches}
use Rattle.bip_observe.specs.Verdicts.{IsTrueOf}
use Rattle.bip_replay.specs.Runs.{IsModelRun}
use Rattle.bip_component.specs.Components.{CanMoveBy, Node}
use Rattle.bip_ip.specs.declared.nodes.OpenRecord.{OpenRecord}
use Rattle.bip_core.specs.declared.messages.Message.TheVariants.{NotifyComponent, OfferTo}
use Rattle.bip_core.specs.declared.messages.Message.TheVariants.{ReplyToClass, RequestToBank}
use Rattle.bip_core.specs.Agreement.{AgreeAt, Agrees}
use Rattle.bip_core.specs.Books.{AreReserved, HasRecord, IsKnownOrPending, RecordFits, ReplyFits}
use Rattle.bip_core.specs.Books.{is_about}
use Rattle.bip_core.specs.Lists.{In, count}
use Rattle.bip_core.specs.Numbers.{IsOwed, is_for}
use Rattle.bip_core.specs.Views.{TakesTo, View}
use Rattle.bip_core.specs.Worlds.{WorldContent}

-- 1. the trace is a run of the model, and moves no component twice with one number; its reserved
-- grants are the bank's, in order
pub record TraceAgrees (p : Planned) (base : ℕ) (w : View) : Type 0 where
  pub run : IsModelRun p.model base w.trace
  pub once : MovesOnceEach w.trace
  pub bank : AreReserved p w.trace w.grants

-- 2. each component is at rest, moving or spent

-- nobody is to tell a component to move: no notification for it is in flight, and none is owed
pub record NobodyTells (w : View) (c : ℕ) : Type 0 where
  pub in_flight : count (is_for c) w.mail ≡ 0
  pub owed : (k a : ℕ) (e : OpenRecord) (n : Notify) → IsOwed w k a e n → ¬ (n.comp.0 ≡ c)

-- a component at rest made all its granted moves: its number is the next one after the used one,
-- and it is where the trace leads
pub record IsAtRest (u : ℕ → ℕ) (s : State) (w : View) (c : ℕ) : Type 0 where
  pub number : w.number c ≡ u c + 1
  pub there : w.state c ≡ s c
  pub none : NobodyTells w c

-- a notification has a component's used number, can be taken where it is, and leads it to where the
-- trace does
pub record LeadsOn (m : System) (u : ℕ → ℕ) (s : State) (w : View) (c : ℕ) (n : Notify)
    : Type 0 where
  pub number : n.number ≡ u c
  pub leads : TakesTo m n (w.state c) (s c)

-- a moving component has its last granted move before it: it may be told of it, in flight or by a
-- granted record, at most once; and what tells it can be taken, and leads it to where the trace
-- does
pub record IsMoving (m : System) (u : ℕ → ℕ) (s : State) (w : View) (c : ℕ) : Type 0 where
  pub number : w.number c ≡ u c
  pub unspent : w.spent c ≡ false
  pub once : count (is_for c) w.mail ≤ 1
  pub or_owed : (k a : ℕ) (e : OpenRecord) (n : Notify) → IsOwed w k a e n → n.comp.0 ≡ c
      → count (is_for c) w.mail ≡ 0
  pub in_flight : (n : Notify) → In (NotifyComponent n) w.mail → n.comp.0 ≡ c
      → LeadsOn m u s w c n
  pub owed : (k a : ℕ) (e : OpenRecord) (n : Notify) → IsOwed w k a e n → n.comp.0 ≡ c
      → LeadsOn m u s w c n

-- a spent component made the move of the last number, and is where the trace leads
pub record IsSpent (u : ℕ → ℕ) (s : State) (w : View) (c : ℕ) : Type 0 where
  pub spent : w.spent c ≡ true
  pub used : u c ≡ last_number
  pub there : w.state c ≡ s c
  pub none : NobodyTells w c

abbrev pub ComponentAgrees : System → (ℕ → ℕ) → State → View → ℕ → Type 0
ComponentAgrees m u s w c = IsAtRest u s w c ⊎ (IsMoving m u s w c ⊎ IsSpent u s w c)

-- 3. an offer, held or in flight, has at most its component's number; one above the used number has
-- the next one, and shows the state to which the trace leads
pub record OfferAgrees (m : System) (u : ℕ → ℕ) (s : State) (w : View) (o : Offer) : Type 0 where
  pub within : o.number ≤ w.number o.comp.0
  pub next : u o.comp.0 < o.number → o.number ≡ u o.comp.0 + 1
  pub shows : u o.comp.0 < o.number → ShowsState m s o

-- an offer that some class holds, or that is in flight to some class
abbrev pub IsOfferOut : View → Offer → Type 0
IsOfferOut w o =
    ((k c : ℕ) × (w.held k c ≡ Some o)) ⊎ ((to : ClassId) × In (OfferTo to o) w.mail)

-- 4. the bank's used number of a component with a row is that of the trace; of one without a row
-- the class that touches it knows it; no class knows a greater one; and each class knows what the
-- grants of its own interactions moved, but for those whose record still waits
pub record UsedAgree (p : Planned) (u : ℕ → ℕ) (w : View) : Type 0 where
  pub tabled : (c : ℕ) → IsTabled p c → w.used c ≡ u c
  pub untabled : (a c : ℕ) → Touches p.model a c → ¬ IsTabled p c
      → w.known (class_in p.classes a) c ≡ u c
  pub no_greater : (k c : ℕ) → w.known k c ≤ u c
  pub own : (g : Grant) → In g w.trace → IsKnownOrPending p w.known w.pending g

-- offers behind a request: it names their numbers, and its reasons are true of them; of those that
-- it names each whose number isn't used yet shows the state to which the trace leads
pub record AreItsOffers (u : ℕ → ℕ) (s : State) (m : System) (q : Request) (offers : ℕ → Offer)
    : Type 0 where
  pub numbers : (x : Want) → In x q.wants → x.number ≡ (offers x.comp.0).number
  pub so : All (λ (y : Why). IsTrueOf m offers y.inter.0 y.cause) q.reasons
  pub show : (c : ℕ) → HasWantOf q.wants c → u c < (offers c).number → ShowsState m s (offers c)

-- 5. a request, in flight or open, fits the plan and has a record, which tells each component that
-- its interaction moves, and no other; none of its numbers is above its component's own; its
-- reasons are true of the offers that it names; and where it is fresh, its interaction may run now,
-- and what its record tells can be taken, and leads to where the joint step does
pub record RequestAgrees (p : Planned) (u : ℕ → ℕ) (s : State) (w : View) (q : Request)
    : Type 0 where
  pub fit : IsFit p q
  pub has : HasRecord w.trace w.pending q
  pub told : (c : ℕ) → moves p.model q.inter.0 c ≡ true
      → (n : Notify) × In n has.entry.notifies × (n.comp.0 ≡ c)
  pub only : (n : Notify) → In n has.entry.notifies → moves p.model q.inter.0 n.comp.0 ≡ true
  pub own : (x : Want) → In x q.wants → x.number ≤ w.number x.comp.0
  pub so : (offers : ℕ → Offer) × AreItsOffers u s p.model q offers
  pub may : IsFresh u q.wants → MayRun p.model s q.inter.0
  pub numbers : IsFresh u q.wants → (n : Notify) → In n has.entry.notifies
      → n.number ≡ w.number n.comp.0
  pub leads : IsFresh u q.wants → (n : Notify) → In n has.entry.notifies
      → TakesTo p.model n (w.state n.comp.0) (after p.model s q.inter.0 n.comp.0)

-- a request that is in flight to the bank, or open there
abbrev pub IsRequestOut : View → Request → Type 0
IsRequestOut w q = In (RequestToBank q) w.mail ⊎ ((a : ℕ) × In q (w.waiting a))

-- 6. each record is of a request that fits; the records of a class differ in request number; what
-- is about an interaction stands once, and in one place: a request in flight, an open one, or a
-- reply in flight, which has its record, and grants it just where it is granted; what tells a
-- component is of a grant, and one record at most owes it, once
pub record RecordsAgree (p : Planned) (u : ℕ → ℕ) (w : View) : Type 0 where
  pub fit : (k a : ℕ) (e : OpenRecord) → w.pending k a ≡ Some e → RecordFits p w.next k a e
  pub apart : (k a b : ℕ) (e f : OpenRecord) → w.pending k a ≡ Some e → w.pending k b ≡ Some f
      → e.request.request ≡ f.request.request → a ≡ b
  pub once : (a : ℕ) → count (is_about a) w.mail + length (w.waiting a) ≤ 1
  pub replies : (r : Reply) → In (ReplyToClass r) w.mail → ReplyFits u w.trace w.pending r
  pub told : (n : Notify) → In (NotifyComponent n) w.mail
      → (g : Grant) × In g w.trace × (moved_in g.wants n.comp.0 ≡ n.number)
  pub one_owes : (j k a b : ℕ) (e f : OpenRecord) (n x : Notify) → IsOwed w j a e n
      → IsOwed w k b f x → n.comp.0 ≡ x.comp.0 → (j ≡ k) × (a ≡ b) × (n ≡ x)

-- all six
pub record AgreesInSix (p : Planned) (base : ℕ) (u : ℕ → ℕ) (s : State) (w : View) : Type 0 where
  pub trace : TraceAgrees p base w
  pub components : (c : ℕ) → ComponentAgrees p.model u s w c
  pub offers : (o : Offer) → IsOfferOut w o → OfferAgrees p.model u s w o
  pub used : UsedAgree p u w
  pub requests : (q : Request) → IsRequestOut w q → RequestAgrees p u s w q
  pub records : RecordsAgree p u w

-- where a world agrees so, there is one offer at most that is out, held or in flight, of a
-- component with a number that isn't used: who grants by it grants what all others see
abbrev pub OneOfferOut : Type 0
OneOfferOut =
    (p : Planned) (base : ℕ) (u : ℕ → ℕ) (s : State) (w : View) → AgreesInSix p base u s w
    → (x y : Offer) → IsOfferOut w x → IsOfferOut w y → x.comp.0 ≡ y.comp.0
    → x.number ≡ y.number → u x.comp.0 < x.number → x ≡ y

-- agreement, as it is kept, says all six
abbrev pub AgreementInSix : Type 0
AgreementInSix =
    (p : Planned) → IsPlanned p → (base : ℕ) (u : ℕ → ℕ) (s : State) (w : View)
    → AgreeAt p base u s w → AgreesInSix p base u s w

-- no notification in flight is stale: where a world agrees with its trace, the component that it is
-- for can move by it
abbrev pub NoneToldIsStale : Type 0
NoneToldIsStale =
    (w : WorldContent) → Agrees w → (n : Notify) → In (NotifyComponent n) w.mail
    → (node : Node) → w.components n.comp.0 ≡ Some node → CanMoveBy node n
