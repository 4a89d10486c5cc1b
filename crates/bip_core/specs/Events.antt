-- Events: what one does, and what it leaves.
use Rattle.std.specs.Prelude.{◌≡◌, ℕ, ◌+◌, ◌<◌, ◌≤◌, List, [], ◌∷◌, ◌++◌, Option}
use Rattle.std.specs.Prelude.{None, Some, length}
use Rattle.std.specs.Prelude.{◌⊎◌, map, ⊤, All, Bool, true, false}
use Rattle.bip_model.specs.declared.grants.Grant.{Grant}
use Rattle.bip_model.specs.declared.messages.Notify.{Notify}
use Rattle.bip_model.specs.declared.messages.Reply.{Reply}
use Rattle.bip_model.specs.declared.messages.Reply.TheVariants as reply
use Rattle.bip_model.specs.declared.messages.Request.{Request}
use Rattle.bip_bank.specs.Decisions.{grant_of, reply_to}
use Rattle.bip_bank.specs.Decisions.Decision.{Decision}
use Rattle.bip_bank.specs.Decisions.Decision.TheVariants as decision
use Rattle.bip_partition.specs.Plans.{IsReserved, Planned}
use Rattle.bip_component.specs.Components.{IsNodeAfter, IsNotified, Node}
use Rattle.bip_component.specs.declared.components.Notified.TheVariants as notified
use Rattle.bip_ip.specs.Nodes.{CanBeAsked, CanBeTried, ClassNode, IsAnswered, IsLeftByReply}
use Rattle.bip_ip.specs.Nodes.{IsTried}
use Rattle.bip_ip.specs.Nodes.{after_offer}
use Rattle.bip_ip.specs.Nodes.{after_try}
use Rattle.bip_ip.specs.declared.nodes.Answered.TheVariants as answered
use Rattle.bip_ip.specs.declared.nodes.Tried.{Tried}
use Rattle.bip_ip.specs.declared.nodes.Tried.TheVariants as tried
use Rattle.bip_observe.specs.Offers.{IsReceipt}
use Rattle.bip_bank.specs.Banks.{BankContent, CanWantMemory, DoesStep, IsActed, content_of}
use Rattle.bip_bank.specs.Banks.{with_request}
use Rattle.bip_bank.specs.Idleness.{IsIdleBecause}
use Rattle.bip_bank.specs.declared.banks.Acted.{Acted}
use Rattle.bip_bank.specs.declared.banks.Acted.TheVariants as acted
use Rattle.bip_bank.specs.declared.banks.BankStep.TheVariants.{Serve}
use Rattle.bip_bank.specs.declared.banks.BankStep.{BankStep}
use Rattle.bip_bank.specs.declared.idleness.WhyIdle.{WhyIdle}
use Rattle.bip_core.specs.Letters.{CanBeOffered, CanBeReplied, CanBeSubmitted, CanBeTold}
use Rattle.bip_core.specs.Worlds.{AreOffersOf, KeptWorld, WorldContent, with_class_node}
use Rattle.bip_core.specs.Worlds.{with_component_node}
use Rattle.bip_core.specs.declared.events.Did.{Did}
use Rattle.bip_core.specs.declared.events.Event.{Event}
use Rattle.bip_core.specs.declared.events.Event.TheVariants.{Mail, Try, Bank}
use Rattle.bip_core.specs.declared.events.What.{What}
use Rattle.bip_core.specs.declared.events.What.TheVariants.{Nothing, Hears, Submits, Learns, Moves}
use Rattle.bip_core.specs.declared.events.What.TheVariants.{Tries, Acts}
use Rattle.bip_core.specs.declared.messages.Message.{Message}
use Rattle.bip_core.specs.declared.messages.Message.TheVariants.{OfferTo, RequestToBank}
use Rattle.bip_core.specs.declared.outcomes.Effect.{Effect}
use Rattle.bip_core.specs.declared.outcomes.Effect.TheVariants as effect
use Rattle.bip_core.specs.declared.outcomes.Outcome.{Outcome}
use Rattle.bip_core.specs.declared.messages.Message.TheVariants.{ReplyToClass, NotifyComponent}

-- the class that a reply names
abbrev pub class_named : Reply → ℕ
class_named (reply.Granted k request a serial) = k.0
class_named (reply.Refused k request a c used) = k.0

-- a message that is handed on: the node for which it is answers by its own contract, and nothing
-- else changes
abbrev pub IsHandedOn : WorldContent → Message → What → WorldContent → Type 0
IsHandedOn w (OfferTo k offer) (Hears receipt) v =
    (node : ClassNode) × (w.classes k.0 ≡ Some node) × IsReceipt node.offers offer receipt
    × (v ≡ with_class_node k.0 (after_offer offer receipt node) w)
IsHandedOn w (RequestToBank q) Submits v = v ≡ record w { bank = with_request q w.bank }
IsHandedOn w (ReplyToClass r) (Learns did) v =
    (node : ClassNode) × (later : ClassNode) × (w.classes (class_named r) ≡ Some node)
    × IsAnswered node r did × IsLeftByReply r did node later
    × (v ≡ with_class_node (class_named r) later w)
IsHandedOn w (NotifyComponent n) (Moves did) v =
    (node : Node) × (later : Node) × (w.components n.comp.0 ≡ Some node)
    × IsNotified node n did × IsNodeAfter node n did later
    × (v ≡ with_component_node n.comp.0 later w)
IsHandedOn w message what v = ⊥

-- messages with one at a place, and those that are left without it
pub record TakesOut (place : ℕ) (message : Message) (mail left : List Message) : Type 0 where
  pub front : List Message
  pub back : List Message
  pub before : length front ≡ place
  pub whole : mail ≡ front ++ message ∷ back
  pub others : left ≡ front ++ back

-- the message at a place is taken out and handed on
pub record IsMailHandedOn (place : ℕ) (w : WorldContent) (what : What) (v : WorldContent)
    : Type 0 where
  pub message : Message
  pub rest : List Message
  pub taken : TakesOut place message w.mail rest
  pub on : IsHandedOn (record w { mail = rest }) message what v

-- what an event does, by the contract of the node that it addresses, and what that leaves
abbrev pub IsDone : WorldContent → Event → What → WorldContent → Type 0
IsDone w (Mail place) Nothing v = (length w.mail ≤ place) × (v ≡ w)
IsDone w (Mail place) what v = IsMailHandedOn place w what v
IsDone w (Try k a) (Tries did) v =
    (node : ClassNode) × (w.classes k.0 ≡ Some node) × IsTried node a.0 did
    × (v ≡ with_class_node k.0 (after_try a.0 did node) w)
IsDone w (Try k a) Nothing v = (w.classes k.0 ≡ None) × (v ≡ w)
IsDone w (Bank step) (Acts did) v =
    (later : BankContent) × DoesStep w.bank step did later × IsActed did w.bank later
    × (v ≡ record w { bank = later })
IsDone w event what v = ⊥

-- the grant that an answer gives, if any: a local one, or the bank's
abbrev pub grant_tried : Tried → Option Grant
grant_tried (tried.Local g notifies) = Some g
grant_tried did = None

abbrev pub grant_acted : Acted → Option Grant
grant_acted (acted.Answered q (decision.Granted serial)) = Some (grant_of q)
grant_acted did = None

abbrev pub grant_in : What → Option Grant
grant_in (Tries did) = grant_tried did
grant_in (Acts did) = grant_acted did
grant_in what = None

-- a trace that a grant joins, if there is one
abbrev pub trace_with : List Grant → Option Grant → List Grant
trace_with trace None = trace
trace_with trace (Some g) = trace ++ g ∷ []

-- the messages that an answer sends: what a moved component offers goes to each class that touches
-- it; what a grant tells to its components; a request to the bank, and its reply to its class
abbrev pub are_notified : List Notify → List Message
are_notified notifies = map (λ n. NotifyComponent n) notifies

abbrev pub AreSent : Planned → What → List Message → Type 0
AreSent p (Moves (notified.Moved offer)) messages = AreOffersOf p offer messages
AreSent p (Learns (answered.Told notifies)) messages = messages ≡ are_notified notifies
AreSent p (Tries (tried.Local g notifies)) messages = messages ≡ are_notified notifies
AreSent p (Tries (tried.Sent q)) messages = messages ≡ RequestToBank q ∷ []
AreSent p (Acts (acted.Answered q d)) messages = messages ≡ ReplyToClass (reply_to q d) ∷ []
AreSent p what messages = messages ≡ []

-- messages, of which some were lost
pub data AreKeptOf : List Message → List Message → Type 0 where
  all_done : AreKeptOf [] []
  one_kept : {m : Message} {xs ys : List Message} → AreKeptOf xs ys → AreKeptOf (m ∷ xs) (m ∷ ys)
  one_lost : {m : Message} {xs ys : List Message} → AreKeptOf xs ys → AreKeptOf xs (m ∷ ys)

-- what an event does, and then the grant that it gives joins the trace
pub record IsTraced (w : WorldContent) (event : Event) (what : What) (v : WorldContent)
    : Type 0 where
  pub middle : WorldContent
  pub done : IsDone w event what middle
  pub after : v ≡ record middle { trace = trace_with middle.trace (grant_in what) }

-- messages that are put last, but for what is lost
pub record ArePut (sent : List Message) (lost : ℕ) (mail later : List Message) : Type 0 where
  pub put : List Message
  pub kept : AreKeptOf put sent
  pub count : lost + length put ≡ length sent
  pub last : later ≡ mail ++ put

-- a step of the world: the node that an event addresses acts, and its grant joins the trace; what
-- it sends is put last, but for what is lost
pub record IsStep (w : WorldContent) (event : Event) (did : Did) (v : WorldContent) : Type 0 where
  pub middle : WorldContent
  pub acted : IsTraced w event did.what middle
  pub sent : List Message
  pub sends : AreSent w.plan did.what sent
  pub put : ArePut sent did.lost middle.mail v.mail
  pub others : v ≡ record middle { mail = v.mail }

-- a step of the bank that want of memory can skip: one for which the bank can want it; or, where
-- some grant was local, one that serves a station, since room for its grant is made before the bank
-- is asked
abbrev pub StepCanBeSkipped : WorldContent → BankStep → Type 0
StepCanBeSkipped w (Serve s) =
    CanWantMemory w.bank (Serve s) ⊎ (length w.bank.grants < length w.trace)
StepCanBeSkipped w step = CanWantMemory w.bank step

-- the events that want of memory can skip: a submission, a try that asks for a local interaction,
-- and such a step of the bank
abbrev pub CanBeSkipped : WorldContent → Event → Type 0
CanBeSkipped w (Mail place) =
    (q : Request) × (rest : List Message) × TakesOut place (RequestToBank q) w.mail rest
CanBeSkipped w (Try k a) =
    (node : ClassNode) × (w.classes k.0 ≡ Some node) × CanBeAsked node a.0
    × ¬ IsReserved w.plan a.0
CanBeSkipped w (Bank step) = StepCanBeSkipped w step

-- where want of memory skips an event that can give a grant: the world itself has no room for one
-- more, or it is the bank that can want it
abbrev pub IsFullFor : KeptWorld → Event → Type 0
IsFullFor w (Try k a) = w.room ≤ length w.trace
IsFullFor w (Bank (Serve s)) =
    CanWantMemory (content_of w.bank) (Serve s) ⊎ (w.room ≤ length w.trace)
IsFullFor w event = ⊤

-- an event has something to do: its message is in flight; its try would be granted at once, or ask
-- for the interaction; its step of the bank decides or moves something, but for want of memory or
-- of a serial
abbrev pub HasWork : WorldContent → Event → Type 0
HasWork w (Mail place) = place < length w.mail
HasWork w (Try k a) = (node : ClassNode) × (w.classes k.0 ≡ Some node) × CanBeTried node a.0
HasWork w (Bank step) = CanWantMemory w.bank step

-- it has nothing to do; of a step of the bank a reason says so
abbrev pub HasNoWork : WorldContent → Event → Type 0
HasNoWork w (Mail place) = length w.mail ≤ place
HasNoWork w (Try k a) = (node : ClassNode) → w.classes k.0 ≡ Some node → ¬ CanBeTried node a.0
HasNoWork w (Bank step) = (why : WhyIdle) × IsIdleBecause w.bank step why

-- What contracts of private functions say.

-- what an answer sends can be written, and is accepted by those for whom it is
abbrev pub SendsWhatFits : Planned → What → Type 0
SendsWhatFits p (Learns (answered.Told notifies)) = All (CanBeTold p) notifies
SendsWhatFits p (Moves (notified.Moved offer)) = CanBeOffered p offer
SendsWhatFits p (Tries (tried.Local g notifies)) = All (CanBeTold p) notifies
SendsWhatFits p (Tries (tried.Sent q)) = CanBeSubmitted p q
SendsWhatFits p (Acts (acted.Answered q d)) = CanBeReplied p (reply_to q d)
SendsWhatFits p what = ⊤

-- a step serves a station
abbrev pub is_serving : BankStep → Bool
is_serving (Serve s) = true
is_serving step = false

-- what an event did, in the words of a report: runs count these
abbrev pub effect_decided : Decision → Effect
effect_decided (decision.Granted serial) = effect.Granted
effect_decided (decision.Refused c used) = effect.Refused

abbrev pub effect_of : What → Effect
effect_of Nothing = effect.Idle
effect_of (Tries tried.Foreign) = effect.Idle
effect_of (Tries (tried.Pending b)) = effect.Idle
effect_of (Tries (tried.Not verdict)) = effect.Idle
effect_of (Tries (tried.Local g notifies)) = effect.Granted
effect_of (Tries tried.Ended) = effect.Idle
effect_of (Acts acted.Nothing) = effect.Idle
effect_of (Acts (acted.Answered q d)) = effect_decided d
effect_of what = effect.Done

-- what an answer sends is put last
pub record IsSending (p : Planned) (what : What) (outcome : Outcome) (mail later : List Message)
    : Type 0 where
  pub sent : List Message
  pub sends : AreSent p what sent
  pub put : ArePut sent outcome.lost mail later
  pub effect : outcome.effect ≡ effect_of what

-- a message is handed on, and what that sends is put last; a witness saw what it did
pub record IsTakenIn (saw : What → Type 0) (w : WorldContent) (message : Message)
    (outcome : Outcome) (v : WorldContent) : Type 0 where
  pub what : What
  pub seen : saw what
  pub middle : WorldContent
  pub on : IsHandedOn w message what middle
  pub sending : IsSending w.plan what outcome middle.mail v.mail
  pub others : v ≡ record middle { mail = v.mail }

-- a step of the world that comes to this; a witness saw what it did
pub record IsCounted (saw : What → Type 0) (w : WorldContent) (event : Event) (outcome : Outcome)
    (v : WorldContent) : Type 0 where
  pub what : What
  pub seen : saw what
  pub step : IsStep w event (record { what = what; lost = outcome.lost }) v
  pub effect : outcome.effect ≡ effect_of what
