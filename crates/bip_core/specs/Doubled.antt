-- Messages in flight that are doubled, and runs in which they are. Worlds agree with their traces
-- all the same, in a weaker form: no clause of it counts messages, each speaks of any one that is
-- there, so a copy changes nothing.
use Rattle.std.specs.Prelude.{◌≡◌, ◌≢◌, ◌⊎◌, ℕ, ◌<◌, ◌≤◌, Any, Contains, List, [], ◌∷◌, ◌++◌}
use Rattle.std.specs.Prelude.{Option, Some, false}
use Rattle.bip_model.specs.Grants.{MovesOnceEach}
use Rattle.bip_model.specs.Messages.{ShowsState}
use Rattle.bip_model.specs.Partitions.{class_in}
use Rattle.bip_model.specs.States.{State}
use Rattle.bip_model.specs.Wants.{IsFresh, moved_in}
use Rattle.bip_model.specs.declared.grants.Grant.{Grant}
use Rattle.bip_model.specs.declared.messages.Notify.{Notify}
use Rattle.bip_model.specs.declared.messages.Offer.{Offer}
use Rattle.bip_model.specs.declared.messages.Reply.{Reply}
use Rattle.bip_model.specs.declared.messages.Reply.TheVariants.{Granted, Refused}
use Rattle.bip_model.specs.declared.messages.Request.{Request}
use Rattle.bip_model.specs.declared.numbering.CompId.{CompId}
use Rattle.bip_model.specs.declared.parts.System.{System}
use Rattle.bip_model.specs.declared.wants.Want.{Want}
use Rattle.bip_partition.specs.Laws.{IsPlanned}
use Rattle.bip_partition.specs.Plans.{IsFit, IsTabled, Planned, Touches}
use Rattle.bip_replay.specs.Runs.{IsModelRun, state_after, used_after}
use Rattle.bip_ip.specs.declared.nodes.OpenRecord.{OpenRecord}
use Rattle.bip_bank.specs.Banks.{BankContent, IsActed}
use Rattle.bip_bank.specs.Decisions.{grant_of}
use Rattle.bip_bank.specs.Decisions.Decision.{Decision}
use Rattle.bip_bank.specs.Decisions.Decision.TheVariants as decision
use Rattle.bip_bank.specs.declared.banks.Acted.TheVariants as acted
use Rattle.bip_core.specs.Agreement.{AgreeAt, Agrees, AreOfPlan}
use Rattle.bip_core.specs.Events.{CanBeSkipped, IsStep}
use Rattle.bip_core.specs.Lists.{In}
use Rattle.bip_core.specs.Numbers.{IsOwed}
use Rattle.bip_core.specs.Runs.{AreSteps}
use Rattle.bip_core.specs.Views.{TakesTo, View, view_of}
use Rattle.bip_core.specs.Worlds.{WorldContent}
use Rattle.bip_core.specs.declared.events.Did.{Did}
use Rattle.bip_core.specs.declared.events.Event.{Event}
use Rattle.bip_core.specs.declared.messages.Message.{Message}
use Rattle.bip_core.specs.declared.messages.Message.TheVariants.{NotifyComponent, OfferTo}
use Rattle.bip_core.specs.declared.messages.Message.TheVariants.{ReplyToClass, RequestToBank}

-- a message in flight is doubled: it is put once more, behind all others
pub record IsDoubled (w v : WorldContent) : Type 0 where
  pub message : Message
  pub in_flight : Contains w.mail message
  pub again : v ≡ record w { mail = w.mail ++ message ∷ [] }

-- events lead from one world to another, one after another: each does something, or is skipped; and
-- before and behind each of them messages in flight may be doubled, as often as one likes
pub data AreStepsWithCopies : List Event → WorldContent → WorldContent → Type 0 where
  with_nothing : {w v : WorldContent} → v ≡ w → AreStepsWithCopies [] w v
  with_copy : {events : List Event} {w x v : WorldContent} → IsDoubled w x
      → AreStepsWithCopies events x v → AreStepsWithCopies events w v
  with_event : {event : Event} {events : List Event} {did : Did} {w x v : WorldContent}
      → IsStep w event did x → AreStepsWithCopies events x v
      → AreStepsWithCopies (event ∷ events) w v
  with_skip : {event : Event} {events : List Event} {w v : WorldContent} → CanBeSkipped w event
      → AreStepsWithCopies events w v → AreStepsWithCopies (event ∷ events) w v

-- Agreement with copies. As for agreement, u has the used numbers of the trace, and s is the state
-- to which it leads.

-- a view without its mail: nothing is in flight or open, and each class knows all used numbers
abbrev pub without_mail : (ℕ → ℕ) → View → View
without_mail u w = record w { known = λ k. u; mail = []; waiting = λ a. [] }

-- a request, in flight or open, fits the plan, and was made; a record with its number is its own;
-- and where it is fresh, that record is there
pub record RequestHolds (p : Planned) (u : ℕ → ℕ) (w : View) (q : Request) : Type 0 where
  pub fit : IsFit p q
  pub made : q.request < w.next q.class.0
  pub same : (b : ℕ) (e : OpenRecord) → w.pending q.class.0 b ≡ Some e
      → e.request.request ≡ q.request → e.request ≡ q
  pub has : IsFresh u q.wants
      → (e : OpenRecord) × (w.pending q.class.0 q.inter.0 ≡ Some e) × (e.request ≡ q)

-- a reply is to a request that was made; where the record of that one is still there, this holds of
-- it
pub record HoldsOfRecord (w : View) (class number inter : ℕ) (P : OpenRecord → Type 0) : Type 0
  where
    pub made : number < w.next class
    pub so : (e : OpenRecord) → w.pending class inter ≡ Some e → e.request.request ≡ number → P e

-- a granted record is granted; a refused one, which may be granted too, wants a component with no
-- more than this used number of it, which isn't above that of the trace
abbrev pub ReplyHolds : (ℕ → ℕ) → View → Reply → Type 0
ReplyHolds u w (Granted k n a serial) =
    HoldsOfRecord w k.0 n a.0 (λ e. In (grant_of e.request) w.trace)
ReplyHolds u w (Refused k n a c used) =
    (used ≤ u c.0)
    × HoldsOfRecord w k.0 n a.0
    (λ e. Any (λ (x : Want). (x.comp.0 ≡ c.0) × (x.number ≤ used)) e.request.wants)

-- a notification is of a grant, and no record owes it; where its component isn't spent, and has its
-- number, it can be taken there, and leads to where the trace does
pub record NotifyHolds (m : System) (s : State) (w : View) (n : Notify) : Type 0 where
  pub of_grant : (g : Grant) × In g w.trace × (moved_in g.wants n.comp.0 ≡ n.number)
  pub not_owed : (k a : ℕ) (e : OpenRecord) (x : Notify) → IsOwed w k a e x
      → x.comp.0 ≡ n.comp.0 → x.number ≢ n.number
  pub leads : w.spent n.comp.0 ≡ false → n.number ≡ w.number n.comp.0
      → TakesTo m n (w.state n.comp.0) (s n.comp.0)

-- an offer has at most its component's number; one whose number isn't used yet shows the state
pub record OfferHolds (m : System) (u : ℕ → ℕ) (s : State) (w : View) (o : Offer) : Type 0 where
  pub within : o.number ≤ w.number o.comp.0
  pub shows : u o.comp.0 < o.number → ShowsState m s o

abbrev pub MessageHolds : Planned → (ℕ → ℕ) → State → View → Message → Type 0
MessageHolds p u s w (RequestToBank q) = RequestHolds p u w q
MessageHolds p u s w (ReplyToClass r) = ReplyHolds u w r
MessageHolds p u s w (NotifyComponent n) = NotifyHolds p.model s w n
MessageHolds p u s w (OfferTo k o) = OfferHolds p.model u s w o

-- the record of a grant waits for its reply, or by what its class knows the grant isn't fresh: so
-- that class doesn't ask for the same again
abbrev pub IsWaitedOrStale : Planned → (ℕ → ℕ → ℕ) → (ℕ → ℕ → Option OpenRecord) → Grant → Type 0
IsWaitedOrStale p known pending g =
    ((e : OpenRecord) × (pending (class_in p.classes g.inter.0) g.inter.0 ≡ Some e)
    × (grant_of e.request ≡ g))
    ⊎ (¬ IsFresh (known (class_in p.classes g.inter.0)) g.wants)

-- a world agrees with its trace where copies are in flight: without its mail it agrees as any world
-- does; no class knows more than is used, and of a component without a row the class that touches
-- it knows all; each message in flight holds, and each open request
pub record AgreeWithCopiesAt (p : Planned) (base : ℕ) (u : ℕ → ℕ) (s : State) (w : View) : Type 0
  where
    pub rest : AgreeAt p base u s (without_mail u w)
    pub at_most : (k c : ℕ) → w.known k c ≤ u c
    pub alone : (a c : ℕ) → Touches p.model a c → ¬ IsTabled p c
        → w.known (class_in p.classes a) c ≡ u c
    pub own : (g : Grant) → In g w.trace → IsWaitedOrStale p w.known w.pending g
    pub mail : (m : Message) → In m w.mail → MessageHolds p u s w m
    pub waiting : (a : ℕ) (q : Request) → In q (w.waiting a)
        → RequestHolds p u w q × (q.inter.0 ≡ a)

abbrev pub AgreeWithCopies : Planned → ℕ → View → Type 0
AgreeWithCopies p base w =
    AgreeWithCopiesAt p base (used_after base w.trace) (state_after p.model w.trace) w

pub record AgreesWithCopies (w : WorldContent) : Type 0 where
  pub planned : IsPlanned w.plan
  pub nodes : AreOfPlan w
  pub all : AgreeWithCopies w.plan w.bank.base (view_of w.bank.base w)

-- Laws

-- each message in flight may be doubled, of whatever kind
abbrev pub EachMayBeDoubled : Type 0
EachMayBeDoubled =
    (w : WorldContent) (m : Message) → Contains w.mail m
    → IsDoubled w (record w { mail = w.mail ++ m ∷ [] })

-- and none need be: each run of events is one with copies
abbrev pub NoneNeedBeDoubled : Type 0
NoneNeedBeDoubled =
    (w v : WorldContent) (events : List Event) (dids : List (Option Did))
    → AreSteps events dids w v → AreStepsWithCopies events w v

-- each world that agrees with its trace does so where copies are in flight
abbrev pub AgreementAllowsCopies : Type 0
AgreementAllowsCopies = (w : WorldContent) → Agrees w → AgreesWithCopies w

-- a message that is doubled keeps that
abbrev pub DoublingKeeps : Type 0
DoublingKeeps =
    (w v : WorldContent) → AgreesWithCopies w → IsDoubled w v → AgreesWithCopies v

-- and so does each event
abbrev pub EventsKeepWithCopies : Type 0
EventsKeepWithCopies =
    (w v : WorldContent) (event : Event) (did : Did) → AgreesWithCopies w → IsStep w event did v
    → AgreesWithCopies v

-- a copy of a request that was granted is refused
abbrev pub CopiesAreRefused : Type 0
CopiesAreRefused =
    (w : WorldContent) (q : Request) (d : Decision) (later : BankContent) → AgreesWithCopies w
    → Contains w.trace (grant_of q) → IsActed (acted.Answered q d) w.bank later
    → (c : CompId) × (used : ℕ) × (d ≡ decision.Refused c used)

-- whatever events a world that agrees with its trace does, and whatever messages are doubled
-- between them: the trace is a run of the model from its start, with its priorities, and moves no
-- component twice with one number
abbrev pub RunsWithCopiesAreRuns : Type 0
RunsWithCopiesAreRuns =
    (w v : WorldContent) (events : List Event) → Agrees w → AreStepsWithCopies events w v
    → IsModelRun w.plan.model w.bank.base v.trace × MovesOnceEach v.trace
