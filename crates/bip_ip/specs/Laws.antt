-- What the definitions mean, in the subject's own words: laws that a reviewer reads.
use Rattle.std.specs.Prelude.{◌≡◌, ◌⊎◌, ◌==◌, ℕ, ◌<◌, ◌≤◌, [], List, true, map, max, All, Any}
use Rattle.std.specs.Prelude.{Contains, Some}
use Rattle.std.specs.Prelude.{count_by, if◌then◌else◌}
use Rattle.std.specs.List.Sorted.{IsStrictlyIncreasing}
use Rattle.std.specs.Option.{option_map}
use Rattle.bip_model.specs.Parts.{IsSystem}
use Rattle.bip_model.specs.States.{State, with_values}
use Rattle.bip_model.specs.Steps.{after, led, moves}
use Rattle.bip_model.specs.declared.messages.Notify.{Notify}
use Rattle.bip_model.specs.declared.messages.Offer.{Offer}
use Rattle.bip_model.specs.declared.messages.Reply.{Reply}
use Rattle.bip_model.specs.declared.messages.Reply.TheVariants.{Granted, Refused}
use Rattle.bip_model.specs.declared.messages.Request.{Request}
use Rattle.bip_model.specs.declared.parts.System.{System}
use Rattle.bip_model.specs.declared.reasons.Why.{Why}
use Rattle.bip_model.specs.declared.wants.Want.{Want}
use Rattle.bip_model.specs.declared.grants.Grant.{Grant}
use Rattle.bip_model.specs.Parties.{AreExplained, HasWantOf}
use Rattle.bip_observe.specs.Verdicts.{OfferCounts, IsReady, IsTrueOf, offers_of}
use Rattle.bip_partition.specs.Plans.{InConflict, IsFit}
use Rattle.bip_observe.specs.Laws.{MovedAreOwn, MovedShow}
use Rattle.bip_observe.specs.Offers.{IsReceipt}
use Rattle.bip_observe.specs.declared.offers.Receipt.{Receipt}
use Rattle.bip_ip.specs.Asking.{told_by}
use Rattle.bip_ip.specs.Nodes.{Awaits, ClassNode, IsAnswered, IsLeftByRefusal, IsLeftByReply}
use Rattle.bip_ip.specs.Nodes.{IsTried}
use Rattle.bip_ip.specs.Nodes.{StandsInTheWay, after_offer, after_try, with_record}
use Rattle.bip_ip.specs.declared.nodes.Answered.{Answered}
use Rattle.bip_ip.specs.declared.nodes.OpenRecord.{OpenRecord}
use Rattle.bip_ip.specs.declared.nodes.Tried.{Tried}
use Rattle.bip_ip.specs.declared.nodes.Tried.TheVariants.{Local, Sent}

-- what is told goes to components that the interaction moves
abbrev pub TellsWhatMoves : Type 0
TellsWhatMoves =
    (m : System) (o : ℕ → Offer) (a : ℕ) (n : Notify) → Contains (told_by m o a) n
    → moves m a n.comp.0 ≡ true

-- with the numbers that they offered
abbrev pub TellsOfferedNumbers : Type 0
TellsOfferedNumbers =
    (m : System) (o : ℕ → Offer) (a : ℕ) (n : Notify) → Contains (told_by m o a) n
    → n.number ≡ (o n.comp.0).number

-- each component that it moves is told
abbrev pub TellsParticipants : Type 0
TellsParticipants =
    (m : System) (o : ℕ → Offer) (a c : ℕ) → moves m a c ≡ true
    → Any (λ (n : Notify). n.comp.0 ≡ c) (told_by m o a)

-- by component
abbrev pub TellsByComponent : Type 0
TellsByComponent =
    (m : System) → IsSystem m → (o : ℕ → Offer) (a : ℕ)
    → IsStrictlyIncreasing (map (λ (n : Notify). n.comp.0) (told_by m o a))

-- so no component is told twice
abbrev pub TellsOnce : Type 0
TellsOnce =
    (m : System) → IsSystem m → (o : ℕ → Offer) (a c : ℕ)
    → count_by (λ (n : Notify). n.comp.0 == c) (told_by m o a) ≤ 1

-- where the offers of what an interaction moves show a state, what a component is told leads it to
-- where the joint step does
abbrev pub LeadsToTheStep : Type 0
LeadsToTheStep =
    (m : System) → IsSystem m → (o : ℕ → Offer) (s : State) (a : ℕ)
    → MovedAreOwn m o a → MovedShow m o s a
    → (n : Notify) → Contains (told_by m o a) n
    → after m s a n.comp.0
    ≡ option_map (λ local. led m n.comp.0 n.port (with_values n.values local)) (s n.comp.0)

-- what a node asks for fits its plan
abbrev pub AskedFits : Type 0
AskedFits =
    (v : ClassNode) (a : ℕ) (q : Request) → IsTried v a (Sent q) → IsFit v.offers.plan q

-- reasons and wants of a node suffice for an interaction: they explain it, and are true; the offers
-- of what is wanted count, and by these alone it is ready
pub record Suffice (v : ClassNode) (a : ℕ) (reasons : List Why) (wants : List Want) : Type 0 where
  pub explained : AreExplained v.offers.plan.model a wants reasons
  pub so : All (λ (y : Why).
      IsTrueOf v.offers.plan.model (offers_of v.offers) y.inter.0 y.cause) reasons
  pub counted : (c : ℕ) → HasWantOf wants c → OfferCounts v.offers c
  pub ready : IsReady v.offers.plan.model (offers_of v.offers) (HasWantOf wants) a

-- so do those of what it asks for, and of what it grants itself
abbrev pub AskedSuffices : Type 0
AskedSuffices =
    (v : ClassNode) (a : ℕ) (q : Request) → IsTried v a (Sent q) → Suffice v a q.reasons q.wants

abbrev pub LocalSuffices : Type 0
LocalSuffices =
    (v : ClassNode) (a : ℕ) (g : Grant) (notifies : List Notify) → IsTried v a (Local g notifies)
    → Suffice v a [] g.wants

-- a request that is open stands in the way of its interaction, and of each in conflict with it
abbrev pub AskedStandsInTheWay : Type 0
AskedStandsInTheWay =
    (v : ClassNode) (a b : ℕ) (q : Request) → IsTried v a (Sent q)
    → (a ≡ b) ⊎ InConflict v.offers.plan.model b a → StandsInTheWay (with_record a q v) b a

-- a try has one answer, and so has a reply
abbrev pub OneAnswerToATry : Type 0
OneAnswerToATry =
    (v : ClassNode) (a : ℕ) (did other : Tried) → IsTried v a did → IsTried v a other → did ≡ other

abbrev pub OneAnswerToAReply : Type 0
OneAnswerToAReply =
    (v : ClassNode) (reply : Reply) (did other : Answered) → IsAnswered v reply did
    → IsAnswered v reply other → did ≡ other

-- a refusal of a wanted component teaches its used number: no known number falls, and none rises
-- but that component's, to no more than that
abbrev pub RefusalsTeach : Type 0
RefusalsTeach =
    (v later : ClassNode) (a c used : ℕ) (e : OpenRecord) → IsLeftByRefusal a c used v later
    → v.pending a ≡ Some e → Any (λ (w : Want). w.comp.0 ≡ c) e.request.wants → (b : ℕ)
    → (v.offers.known b ≤ later.offers.known b)
    × (later.offers.known b ≤ max (v.offers.known b) (if b == c then used else 0))

-- what a node does: it hears an offer, tries an interaction, or takes a reply
pub data NodeStep (v later : ClassNode) : Type 0 where
  hears : (offer : Offer) (receipt : Receipt) → IsReceipt v.offers offer receipt
      → later ≡ after_offer offer receipt v → NodeStep v later
  tries : (a : ℕ) (did : Tried) → IsTried v a did → later ≡ after_try a did v
      → NodeStep v later
  takes : (reply : Reply) (did : Answered) → IsAnswered v reply did
      → IsLeftByReply reply did v later → NodeStep v later

-- request numbers only rise
abbrev pub NextOnlyRises : Type 0
NextOnlyRises = (v later : ClassNode) → NodeStep v later → v.next ≤ later.next

-- the number of the request that a reply is to
abbrev pub request_in : Reply → ℕ
request_in (Granted class request a serial) = request
request_in (Refused class request a c used) = request

-- a reply is past: a request of its number was made, and no record waits for it
pub record IsPast (v : ClassNode) (reply : Reply) : Type 0 where
  pub made : request_in reply < v.next
  pub over : (e : OpenRecord) → ¬ Awaits v reply e

-- a record tells once: the reply for which it waited is past then
abbrev pub TakenOnce : Type 0
TakenOnce =
    (v later : ClassNode) (reply : Reply) (e : OpenRecord) (did : Answered) → Awaits v reply e
    → e.request.request < v.next → IsAnswered v reply did → IsLeftByReply reply did v later
    → IsPast later reply

-- and stays so, whatever the node does
abbrev pub PastStays : Type 0
PastStays =
    (v later : ClassNode) (reply : Reply) → NodeStep v later → IsPast v reply → IsPast later reply
