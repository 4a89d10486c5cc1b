-- Interaction protocol nodes: what the node of a class has, what it answers, and what that leaves.
use Rattle.std.specs.Prelude.{◌≡◌, ◌≢◌, ◌⊎◌, ℕ, ◌+◌, ◌<◌, ◌≤◌, [], List, Option, None, Some, length}
use Rattle.std.specs.Prelude.{slice_index_or, is_some, Any, IsSome}
use Rattle.bip_model.specs.Numbering.{IsLowest, last_number, put}
use Rattle.bip_model.specs.Parties.{AreWantsBy}
use Rattle.bip_model.specs.Partitions.{class_in}
use Rattle.bip_model.specs.Sets.{has}
use Rattle.bip_model.specs.Wants.{raised}
use Rattle.bip_model.specs.declared.messages.Notify.{Notify}
use Rattle.bip_model.specs.declared.messages.Offer.{Offer}
use Rattle.bip_model.specs.declared.messages.Reply.{Reply}
use Rattle.bip_model.specs.declared.messages.Reply.TheVariants.{Granted, Refused}
use Rattle.bip_model.specs.declared.messages.Request.{Request}
use Rattle.bip_model.specs.declared.reasons.Why.{Why}
use Rattle.bip_model.specs.declared.wants.Want.{Want}
use Rattle.bip_partition.specs.Plans.{ClassTouches, InConflict, IsFit, IsReserved, Planned}
use Rattle.bip_observe.specs.Offers.{KeptOffers, Observed, nothing_held, observed, with_held}
use Rattle.bip_observe.specs.Offers.{with_known}
use Rattle.bip_observe.specs.Verdicts.{AreReasonsBy, IsVerdict, offers_of}
use Rattle.bip_observe.specs.declared.offers.Receipt.{Receipt}
use Rattle.bip_observe.specs.declared.offers.Receipt.TheVariants.{Held, Old, Stranger}
use Rattle.bip_observe.specs.declared.verdicts.Verdict.TheVariants.{Ready}
use Rattle.bip_ip.specs.Asking.{told_by}
use Rattle.bip_ip.specs.Records.{KeptRecords}
use Rattle.bip_ip.specs.declared.nodes.OpenRecord.{OpenRecord}
use Rattle.bip_ip.specs.declared.nodes.Tried.{Tried}
use Rattle.bip_ip.specs.declared.nodes.WhyNot.{WhyNot}
use Rattle.bip_ip.specs.declared.nodes.WhyNot.TheVariants as why_not
use Rattle.bip_ip.specs.declared.nodes.Tried.TheVariants.{Foreign, Pending, Not, Local, Ended, Sent}
use Rattle.bip_ip.specs.declared.nodes.Answered.{Answered}
use Rattle.bip_ip.specs.declared.nodes.Answered.TheVariants.{Told, Dropped, Stale}

-- the node of a class: what it has of the components that it touches; of each interaction the
-- record that is kept while its request is open; and the number of its next request, which is past
-- the last one where none is left
pub record ClassNode : Type 0 where
  pub offers : Observed
  pub pending : ℕ → Option OpenRecord
  pub next : ℕ

-- what is kept of it
pub record KeptNode : Type 0 where
  pub offers : KeptOffers
  pub pending : List (Option OpenRecord)
  pub next : ℕ

-- a node by what is kept
abbrev pub node_of : KeptNode → ClassNode
node_of n =
    record {
      offers = observed n.offers;
      pending = λ a. slice_index_or n.pending a None;
      next = n.next;
    }

-- the node of a class at first: it knows the base as used, holds no offer, and has no request open
abbrev pub first_node : Planned → ℕ → ℕ → ℕ → ClassNode
first_node p class base first =
    record { offers = nothing_held p class base; pending = λ a. None; next = first }

-- an interaction of the node's class
pub record IsOwn (v : ClassNode) (a : ℕ) : Type 0 where
  pub declared : a < length v.offers.plan.model.interactions
  pub class : class_in v.offers.plan.classes a ≡ v.offers.class

-- an interaction stands in the way of another: its request is open, and it is that one, or in
-- conflict with it
abbrev pub StandsInTheWay : ClassNode → ℕ → ℕ → Type 0
StandsInTheWay v a b =
    IsSome (v.pending b) × ((b ≡ a) ⊎ InConflict v.offers.plan.model a b)

-- an interaction can be asked for: it is of the class, nothing stands in its way, and by the offers
-- that the node holds it is ready
pub record CanBeAsked (v : ClassNode) (a : ℕ) : Type 0 where
  pub own : IsOwn v a
  pub free : (b : ℕ) → ¬ StandsInTheWay v a b
  pub ready : IsVerdict v.offers a Ready

-- a try of an interaction would do something: it can be asked for, and a request number is left for
-- one that is reserved
pub record CanBeTried (v : ClassNode) (a : ℕ) : Type 0 where
  pub asked : CanBeAsked v a
  pub numbered : IsReserved v.offers.plan a → v.next ≤ last_number

-- the wants of an interaction by the offers that the node holds, with reasons, and what its
-- components are told
abbrev pub AreWanted : ClassNode → ℕ → List Why → List Want → Type 0
AreWanted v a reasons wants =
    AreWantsBy v.offers.plan.model (offers_of v.offers) a reasons wants

abbrev pub told_of : ClassNode → ℕ → List Notify
told_of v a = told_by v.offers.plan.model (offers_of v.offers) a

-- the next request of a node is this one, for an interaction
pub record IsNextRequest (v : ClassNode) (a : ℕ) (q : Request) : Type 0 where
  pub class : q.class.0 ≡ v.offers.class
  pub number : q.request ≡ v.next
  pub inter : q.inter.0 ≡ a
  pub reasons : AreReasonsBy v.offers a q.reasons
  pub wants : AreWanted v a q.reasons q.wants

-- what a node answers to a try of an interaction, the first that applies: it isn't of its class;
-- this is the lowest that stands in its way; by its offers it isn't ready; it is local, and granted
-- at once, with wants of what it moves alone; no request number is left; the request is sent
abbrev pub IsTried : ClassNode → ℕ → Tried → Type 0
IsTried v a Foreign = ¬ IsOwn v a
IsTried v a (Pending b) = IsOwn v a × IsLowest (StandsInTheWay v a) b.0
IsTried v a (Not verdict) =
    IsOwn v a × ((b : ℕ) → ¬ StandsInTheWay v a b) × IsVerdict v.offers a verdict
    × (verdict ≢ Ready)
IsTried v a (Local g notifies) =
    CanBeAsked v a × (¬ IsReserved v.offers.plan a) × (g.inter.0 ≡ a)
    × AreWanted v a [] g.wants
    × (notifies ≡ told_of v a)
IsTried v a Ended = CanBeAsked v a × IsReserved v.offers.plan a × (last_number < v.next)
IsTried v a (Sent q) =
    CanBeAsked v a × IsReserved v.offers.plan a × (v.next ≤ last_number) × IsNextRequest v a q

-- a try that asks for nothing, by why
abbrev pub tried_of : WhyNot → Tried
tried_of why_not.Foreign = Foreign
tried_of (why_not.Pending b) = Pending b
tried_of (why_not.Not verdict) = Not verdict

-- with the numbers known as used that wants move their components with
abbrev pub with_learned : List Want → Observed → Observed
with_learned wants v = record v { known = raised v.known wants }

-- after a grant: what it moved is known, and each record is as it was
abbrev pub with_grant_known : List Want → ClassNode → ClassNode
with_grant_known wants v = record v { offers = with_learned wants v.offers }

-- after a request was sent: its record is kept, with what its grant will tell
abbrev pub with_record : ℕ → Request → ClassNode → ClassNode
with_record a q v =
    record v {
      pending = put v.pending a (Some (record { request = q; notifies = told_of v a }));
      next = v.next + 1;
    }

-- what a try leaves: a local grant is known; a request is recorded; otherwise all stays as it was
abbrev pub after_try : ℕ → Tried → ClassNode → ClassNode
after_try a Foreign v = v
after_try a (Pending b) v = v
after_try a (Not verdict) v = v
after_try a (Local g notifies) v = with_grant_known g.wants v
after_try a Ended v = v
after_try a (Sent q) v = with_record a q v

-- the interaction that a reply names
abbrev pub inter_in : Reply → ℕ
inter_in (Granted class request a serial) = a.0
inter_in (Refused class request a c used) = a.0

-- a reply is to a request: it names its class and its number
abbrev pub IsReplyTo : Reply → Request → Type 0
IsReplyTo (Granted class request a serial) q =
    (q.class.0 ≡ class.0) × (q.request ≡ request)
IsReplyTo (Refused class request a c used) q =
    (q.class.0 ≡ class.0) × (q.request ≡ request)

-- the record that waits for a reply: that of the interaction and of the request which it names
pub record Awaits (v : ClassNode) (reply : Reply) (e : OpenRecord) : Type 0 where
  pub pending : v.pending (inter_in reply) ≡ Some e
  pub to : IsReplyTo reply e.request

-- what a node answers to a reply: a record waits for it, which is granted and told, or refused and
-- dropped; or none does
abbrev pub IsAnswered : ClassNode → Reply → Answered → Type 0
IsAnswered v (Granted class request a serial) (Told notifies) =
    (e : OpenRecord) × Awaits v (Granted class request a serial) e × (notifies ≡ e.notifies)
IsAnswered v (Granted class request a serial) Dropped = ⊥
IsAnswered v (Refused class request a c used) (Told notifies) = ⊥
IsAnswered v (Refused class request a c used) Dropped =
    (e : OpenRecord) × Awaits v (Refused class request a c used) e
IsAnswered v reply Stale = (e : OpenRecord) → ¬ Awaits v reply e

-- without the record of an interaction
abbrev pub without : ℕ → ClassNode → ClassNode
without a v = record v { pending = put v.pending a None }

-- what a refusal leaves: the record is gone, and the used number that is named is known where the
-- class touches that component, as it does each one that the record's request wants; plan, class
-- and request number stay
pub record IsLeftByRefusal (a c used : ℕ) (v later : ClassNode) : Type 0 where
  pub pending : later.pending ≡ put v.pending a None
  pub next : later.next ≡ v.next
  pub plan : later.offers.plan ≡ v.offers.plan
  pub class : later.offers.class ≡ v.offers.class
  pub held : later.offers.held ≡ v.offers.held
  pub wanted : (e : OpenRecord) → v.pending a ≡ Some e
      → Any (λ (w : Want). w.comp.0 ≡ c) e.request.wants
      → later.offers ≡ with_known c used v.offers
  pub touched : ClassTouches v.offers.plan v.offers.class c
      → later.offers ≡ with_known c used v.offers
  pub others : (¬ ClassTouches v.offers.plan v.offers.class c) → later.offers ≡ v.offers

-- what a reply leaves: the record that waits for it is gone, and what a grant of it moved is known;
-- or what a refusal leaves; else all stays as it was
abbrev pub IsLeftByReply : Reply → Answered → ClassNode → ClassNode → Type 0
IsLeftByReply reply Stale v later = later ≡ v
IsLeftByReply reply (Told notifies) v later =
    (e : OpenRecord) → Awaits v reply e
    → later ≡ with_grant_known e.request.wants (without (inter_in reply) v)
IsLeftByReply (Refused class request a c used) Dropped v later =
    IsLeftByRefusal a.0 c.0 used v later
IsLeftByReply (Granted class request a serial) Dropped v later = ⊥

-- what an offer leaves: one that is held joins those that are, and all else stays as it was
abbrev pub after_offer : Offer → Receipt → ClassNode → ClassNode
after_offer offer Held v = record v { offers = with_held offer v.offers }
after_offer offer Old v = v
after_offer offer Stranger v = v

-- what is kept of any node: perhaps a record of each interaction; a record is of a request of the
-- class for that interaction, which fits the plan, with a number before the next one
pub record IsItsRecord (n : KeptNode) (a : ℕ) (e : OpenRecord) : Type 0 where
  pub inter : e.request.inter.0 ≡ a
  pub class : e.request.class.0 ≡ n.offers.class
  pub fit : IsFit n.offers.plan e.request
  pub earlier : e.request.request < n.next

pub record IsKeptNode (n : KeptNode) : Type 0 where
  pub each : length n.pending ≡ length n.offers.plan.model.interactions
  pub records : (a : ℕ) (e : OpenRecord) → slice_index_or n.pending a None ≡ Some e
      → IsItsRecord n a e

-- What contracts of private functions say.

-- a set has the interactions whose requests are open
abbrev pub AreAsked : ℕ → List (Option OpenRecord) → Type 0
AreAsked set pending = (a : ℕ) → has set a ≡ is_some (slice_index_or pending a None)

-- what is kept of a node is stored: its open requests as a set too, and its records with those of
-- the class of its plan
pub record IsStored (n : KeptNode) (set : ℕ) (records : KeptRecords) : Type 0 where
  pub kept : IsKeptNode n
  pub asked : AreAsked set n.pending
  pub plan : records.plan ≡ n.offers.plan
  pub class : records.class ≡ n.offers.class
