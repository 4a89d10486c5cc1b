-- What events mean for traces and messages, in the subject's own words: laws that a reviewer reads.
-- They stand on what a step is, and on nothing else.
use Rattle.std.specs.Prelude.{◌≡◌, ◌↔◌, ◌+◌, ◌≤◌, ◌<◌, ◌==◌, ◌&&◌, ℕ, Bool, false, List, [], ◌∷◌}
use Rattle.std.specs.Prelude.{◌++◌, Contains, Option, Some, count_by, length, slice_get, true}
use Rattle.std.specs.Option.{option_to_list}
use Rattle.bip_model.specs.Numbering.{last_number}
use Rattle.bip_model.specs.States.{State}
use Rattle.bip_model.specs.declared.grants.Grant.{Grant}
use Rattle.bip_model.specs.declared.messages.Notify.{Notify}
use Rattle.bip_model.specs.declared.messages.Offer.{Offer}
use Rattle.bip_model.specs.declared.numbering.ClassId.{ClassId}
use Rattle.bip_partition.specs.Plans.{ClassTouches, Planned}
use Rattle.bip_bank.specs.Laws.{MovesInOneWay}
use Rattle.bip_observe.specs.Laws.{AllShow, IsInSet}
use Rattle.bip_observe.specs.Verdicts.{IsReady}
use Rattle.bip_component.specs.Components.{CanMoveBy, IsNode, IsOffered, Node}
use Rattle.bip_ip.specs.Asking.{told_by}
use Rattle.bip_core.specs.Starting.{IsNewWorld}
use Rattle.bip_core.specs.Agreement.{AreOfPlan}
use Rattle.bip_core.specs.Events.{AreSent, HasNoWork, HasWork, IsStep, grant_in, trace_with}
use Rattle.bip_core.specs.Runs.{AreSteps, did_so, is_grant, is_idle}
use Rattle.bip_core.specs.Worlds.{WorldContent}
use Rattle.bip_core.specs.declared.events.Did.{Did}
use Rattle.bip_core.specs.declared.events.Event.{Event}
use Rattle.bip_core.specs.declared.events.Event.TheVariants.{Bank, Mail, Try}
use Rattle.bip_core.specs.declared.messages.Message.{Message}
use Rattle.bip_core.specs.declared.messages.Message.TheVariants.{NotifyComponent, OfferTo}
use Rattle.bip_core.specs.declared.messages.Message.TheVariants.{ReplyToClass, RequestToBank}

-- the trace after an event is the one before with the grant that the event gave, if it gave one
abbrev pub GrantsJoinTheTrace : Type 0
GrantsJoinTheTrace =
    (w v : WorldContent) (event : Event) (did : Did) → IsStep w event did v
    → v.trace ≡ trace_with w.trace (grant_in did.what)

-- whatever events, the trace after begins with the trace before, and grew by as many grants as the
-- events gave
abbrev pub TracesGoOn : Type 0
TracesGoOn =
    (w v : WorldContent) (events : List Event) (dids : List (Option Did))
    → AreSteps events dids w v
    → (gs : List Grant) × (v.trace ≡ w.trace ++ gs)
    × (count_by (did_so is_grant) dids ≡ length gs)

-- a world has the plan of another, its bank's base, and its nodes where that one's are the plan's
pub record KeepsThePlan (w v : WorldContent) : Type 0 where
  pub plan : v.plan ≡ w.plan
  pub base : v.bank.base ≡ w.bank.base
  pub nodes : AreOfPlan w → AreOfPlan v

-- no event changes the plan, the base of the bank, or whose nodes stand where
abbrev pub WorldsKeepTheirPlan : Type 0
WorldsKeepTheirPlan =
    (w v : WorldContent) (events : List Event) (dids : List (Option Did))
    → AreSteps events dids w v → KeepsThePlan w v

-- messages are neither made up nor doubled: whatever kind of them is counted, after an event there
-- are no more in flight than were before and are sent by its answer
abbrev pub MessagesAreSent : Type 0
MessagesAreSent =
    (w v : WorldContent) (event : Event) (did : Did) → IsStep w event did v
    → (sent : List Message) × AreSent w.plan did.what sent
    × ((kind : Message → Bool)
    → count_by kind v.mail ≤ count_by kind w.mail + count_by kind sent)

-- and the one that is handed on is in flight no more
abbrev pub MessagesGoOnce : Type 0
MessagesGoOnce =
    (w v : WorldContent) (place : ℕ) (did : Did) → IsStep w (Mail place) did v
    → place < length w.mail
    → (message : Message) × (slice_get w.mail place ≡ Some message)
    × (sent : List Message) × AreSent w.plan did.what sent
    × ((kind : Message → Bool) → count_by kind v.mail + count_by kind (message ∷ [])
    ≤ count_by kind w.mail + count_by kind sent)

-- the messages that an event hands on: the one at its place, if there is one
abbrev pub handed_out : Event → List Message → List Message
handed_out (Mail place) mail = option_to_list (slice_get mail place)
handed_out (Try k a) mail = []
handed_out (Bank step) mail = []

-- none vanishes: whatever kind of them is counted, those that were in flight or are sent still are,
-- but for the one that is handed on and for as many as are counted as lost; and just so many are
abbrev pub MessagesAreCounted : Type 0
MessagesAreCounted =
    (w v : WorldContent) (event : Event) (did : Did) → IsStep w event did v
    → (sent : List Message) × AreSent w.plan did.what sent
    × ((kind : Message → Bool) → count_by kind w.mail + count_by kind sent
    ≤ count_by kind v.mail + count_by kind (handed_out event w.mail) + did.lost)
    × (length w.mail + length sent
    ≡ length v.mail + length (handed_out event w.mail) + did.lost)

-- a node is that of a notification's component: its next move has that number, and it is where a
-- state says
pub record IsAwaiting (p : Planned) (s : State) (n : Notify) (node : Node) : Type 0 where
  pub valid : IsNode node
  pub plan : node.plan ≡ p
  pub comp : n.comp.0 ≡ node.comp
  pub number : n.number ≡ node.number
  pub unspent : node.spent ≡ false
  pub there : s node.comp ≡ Some node.local

-- where the offers of a ready interaction show a state, each component that is told can move by it
abbrev pub ToldCanBeTaken : Type 0
ToldCanBeTaken =
    (p : Planned) (o : ℕ → Offer) (set : ℕ → Bool) (s : State) (a : ℕ)
    → IsReady p.model o (IsInSet set) a → AllShow p.model o (IsInSet set) s
    → (n : Notify) → Contains (told_by p.model o a) n → (node : Node) → IsAwaiting p s n node
    → CanMoveBy node n

-- a message is the first offer of a component, to a class that touches it
pub record IsFirstMail (w : WorldContent) (m : Message) : Type 0 where
  pub class : ClassId
  pub offer : Offer
  pub node : Node
  pub is : m ≡ OfferTo class offer
  pub here : w.components offer.comp.0 ≡ Some node
  pub offered : IsOffered node (Some offer)
  pub touches : ClassTouches w.plan class.0 offer.comp.0

-- a message offers a component's move to a class
abbrev pub is_offer_to : ℕ → ℕ → Message → Bool
is_offer_to k c (OfferTo class offer) = (class.0 == k) && (offer.comp.0 == c)
is_offer_to k c (RequestToBank q) = false
is_offer_to k c (ReplyToClass r) = false
is_offer_to k c (NotifyComponent n) = false

-- in flight at first are the first offers of all components to the classes that touch them, and no
-- other messages; each once
abbrev pub FirstOffersAreSent : Type 0
FirstOffersAreSent =
    (p : Planned) (base : ℕ) (w : WorldContent) → IsNewWorld p base w
    → ((m : Message) → Contains w.mail m ↔ IsFirstMail w m)
    × ((k c : ℕ) → count_by (is_offer_to k c) w.mail ≤ 1)

-- an event that has something to do isn't idle, where a serial is left, and what stations share
-- moves in one way
abbrev pub WorkIsDone : Type 0
WorkIsDone =
    (w v : WorldContent) (event : Event) (did : Did) → MovesInOneWay w.bank.sharing
    → length w.bank.grants < last_number → HasWork w event → IsStep w event did v
    → is_idle did.what ≡ false

-- and one that has nothing to do is idle
abbrev pub NoWorkIsIdle : Type 0
NoWorkIsIdle =
    (w v : WorldContent) (event : Event) (did : Did) → MovesInOneWay w.bank.sharing
    → HasNoWork w event → IsStep w event did v → is_idle did.what ≡ true
