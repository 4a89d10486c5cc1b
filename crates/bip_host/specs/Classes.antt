-- The actor of a class: what it tries, asks, appends and tells, and in which order.
use Rattle.std.specs.Prelude.{◌≡◌, ◌⊎◌, ℕ, ◌+◌, ◌-◌, ◌<◌, ◌≤◌, nat_lt, Bool, false, true, List}
use Rattle.std.specs.Prelude.{Option, None, Some, Result, Err, Ok, IfOk, IfSome, IsTrue}
use Rattle.std.specs.Prelude.{MatchOption, length, if◌then◌else◌, slice_get, ⊤}
use Rattle.bip_host.specs.Counts.{nothing_counted, counted_up, with_posted}
use Rattle.bip_host.specs.Keepers.{IsEntryOf}
use Rattle.bip_host.specs.Movers.{CanTell}
use Rattle.bip_host.specs.declared.actors.Step.{Step}
use Rattle.bip_host.specs.declared.actors.Step.TheVariants.{Act, Over}
use Rattle.bip_host.specs.declared.actors.Turn.TheVariants.{Done, Ends, Nothing}
use Rattle.bip_host.specs.declared.books.Entry.{Entry}
use Rattle.bip_host.specs.declared.classes.ClassAct.{ClassAct}
use Rattle.bip_host.specs.declared.classes.ClassAct.TheVariants.{Append, Ask, Look, Pass, Tell}
use Rattle.bip_host.specs.declared.classes.ClassActor.{ClassActor}
use Rattle.bip_host.specs.declared.classes.ClassAnswer.{ClassAnswer}
use Rattle.bip_host.specs.declared.classes.ClassAnswer.TheVariants as answers
use Rattle.bip_host.specs.declared.classes.Errand.TheVariants as errand
use Rattle.bip_host.specs.declared.classes.Errand.{Errand}
use Rattle.bip_host.specs.declared.classes.Reserved.{Reserved}
use Rattle.bip_host.specs.declared.classes.Reserved.TheVariants as reserved
use Rattle.bip_host.specs.declared.classes.Stage.{Stage}
use Rattle.bip_host.specs.declared.classes.Stage.TheVariants.{Appending, Asked, Asking, Entered}
use Rattle.bip_host.specs.declared.classes.Stage.TheVariants.{Looking, Resting, Telling}
use Rattle.bip_host.specs.declared.counts.Counts.{Counts}
use Rattle.bip_host.specs.declared.gates.Point.TheVariants as point
use Rattle.bip_host.specs.declared.messages.ToClass.{ToClass}
use Rattle.bip_host.specs.declared.messages.ToClass.TheVariants as heard
use Rattle.bip_host.specs.declared.waiting.Outcome.TheVariants as outcome
use Rattle.bip_host.specs.declared.waiting.Outcome.{Outcome}
use Rattle.bip_ip.specs.Nodes.{IsAnswered, IsLeftByReply, IsTried, KeptNode, after_offer}
use Rattle.bip_ip.specs.Nodes.{after_try, first_node, node_of}
use Rattle.bip_ip.specs.declared.nodes.Answered.{Answered}
use Rattle.bip_ip.specs.declared.nodes.Answered.TheVariants.{Dropped, Stale, Told}
use Rattle.bip_ip.specs.declared.nodes.Tried.{Tried}
use Rattle.bip_ip.specs.declared.nodes.Tried.TheVariants.{Ended, Foreign, Local, Not, Pending, Sent}
use Rattle.bip_model.specs.declared.grants.Grant.{Grant}
use Rattle.bip_model.specs.declared.messages.Notify.{Notify}
use Rattle.bip_model.specs.declared.messages.Offer.{Offer}
use Rattle.bip_model.specs.declared.messages.Reply.{Reply}
use Rattle.bip_model.specs.declared.messages.Reply.TheVariants as reply
use Rattle.bip_model.specs.declared.messages.Request.{Request}
use Rattle.bip_model.specs.declared.numbering.ClassId.{ClassId}
use Rattle.bip_model.specs.declared.numbering.InterId.{InterId}
use Rattle.bip_observe.specs.Offers.{IsReceipt, observed}
use Rattle.bip_observe.specs.declared.offers.Receipt.{Receipt}
use Rattle.bip_partition.specs.Plans.{Planned}
use Rattle.bip_table.specs.Reservations.{grant_of}
use Rattle.bip_table.specs.declared.faults.TableFault.{TableFault}
use Rattle.bip_table.specs.declared.faults.TableFault.TheVariants as fault

-- an actor of a class at first: its node is new, with the first request number 1; it has the
-- class's interactions, in order of number, and tries the first of them next; it takes offers with
-- numbers up to this one, and has nothing to end
pub record IsFirstClassActor (p : Planned) (c greatest : ℕ) (a : ClassActor) : Type 0 where
  pub node : node_of a.node ≡ first_node p c 0 1
  pub class : a.class.0 ≡ c
  pub members : slice_get p.classes.members c ≡ Some a.members.now
  pub next : a.next ≡ 0
  pub most : a.most ≡ greatest
  pub errand : a.errand ≡ errand.Nothing
  pub stage : a.stage ≡ Resting
  pub counts : a.counts ≡ nothing_counted

-- the place of the interaction that is tried next: the first one after the last
abbrev pub place_next : ClassActor → ℕ
place_next a = if nat_lt a.next (length a.members.now) then a.next else 0

-- what a try's answer asks for: that a local grant is appended; that the gate is passed before the
-- request is handed on; the node ends where no request number is left; else nothing more
abbrev pub step_of_try : ClassActor → Tried → Step ClassAct
step_of_try a (Local g notifies) = Act (Append g)
step_of_try a (Sent q) = Act (Pass (point.Asked a.class q.inter))
step_of_try a Ended = Over Ends
step_of_try a Foreign = Over a.turn
step_of_try a (Pending b) = Over a.turn
step_of_try a (Not verdict) = Over a.turn

abbrev pub stage_of_try : Tried → Stage → Stage
stage_of_try (Local g notifies) stage = Appending notifies
stage_of_try (Sent q) stage = Asking q
stage_of_try Ended stage = stage
stage_of_try Foreign stage = stage
stage_of_try (Pending b) stage = stage
stage_of_try (Not verdict) stage = stage

-- it tries this interaction, and wants what the answer asks for
abbrev pub IsTrialOf : InterId → ClassActor → Step ClassAct → ClassActor → Type 0
IsTrialOf inter a step later =
    (did : Tried) × IsTried (node_of a.node) inter.0 did
    × (node_of later.node ≡ after_try inter.0 did (node_of a.node))
    × (step ≡ step_of_try a did)
    × (later ≡ record a { node = later.node; stage = stage_of_try did a.stage })

-- it tries the next interaction, if the class has any
abbrev pub IsTrial : ClassActor → Step ClassAct → ClassActor → Type 0
IsTrial a step later =
    MatchOption (slice_get a.members.now (place_next a))
    ((step ≡ Over a.turn) × (later ≡ record a { has_tried = true }))
    (λ inter. IsTrialOf inter (record a { next = place_next a + 1; has_tried = true }) step later)

-- it goes on with what is to be ended: it asks for the same request again, or looks for its grant
-- that waits; where that is nothing, it tries the next interaction
abbrev pub IsErrandDone : Errand → ClassActor → Step ClassAct → ClassActor → Type 0
IsErrandDone errand.Nothing a step later = IsTrial a step later
IsErrandDone (errand.Asks q) a step later =
    (step ≡ Act (Ask q))
    × (later ≡ record a {
      errand = errand.Nothing;
      stage = Asked q.inter q.request;
      has_tried = true;
    })
IsErrandDone (errand.Waits request serial) a step later =
    (step ≡ Act Look)
    × (later ≡ record a {
      errand = errand.Nothing;
      stage = Looking request serial;
      has_tried = true;
    })

abbrev pub IsNextDone : ClassActor → Step ClassAct → ClassActor → Type 0
IsNextDone a step later = IsErrandDone a.errand a step later

-- what is left of a turn: it goes on with what is to be ended, or tries the next interaction, where
-- it did neither yet
abbrev pub IsRest : ClassActor → Step ClassAct → ClassActor → Type 0
IsRest a step later =
    (IsTrue a.has_tried × (step ≡ Over Done) × (later ≡ a))
    ⊎ ((a.has_tried ≡ false) × IsNextDone a step later)

-- a grant that stands in the book is to be told: it wants to pass the gate first; where these are
-- notifications of another grant it ends
abbrev pub IsOnEntry : Entry → List Notify → ClassActor → Step ClassAct → ClassActor → Type 0
IsOnEntry entry notifies a step later =
    (CanTell entry notifies × (step ≡ Act (Pass (point.Told a.class entry.inter)))
    × (later ≡ record a { turn = Done; stage = Entered entry notifies }))
    ⊎ ((¬ CanTell entry notifies) × (step ≡ Over Ends) × (later ≡ a))

-- so many notifications of a grant are put: the next one is, or all are
abbrev pub IsOnTold : Entry → List Notify → ℕ → ClassActor → Step ClassAct → ClassActor → Type 0
IsOnTold entry notifies k a step later =
    MatchOption (slice_get notifies k) (IsRest a step later)
    (λ n. (step ≡ Act (Tell n)) × (later ≡ record a { stage = Telling entry notifies k }))

-- its request with this number is granted with this serial, and the grant stands in the book: where
-- the request is open, that is told; else nothing is
abbrev pub IsOnAnswered : Answered → Entry → ClassActor → Step ClassAct → ClassActor → Type 0
IsOnAnswered (Told notifies) entry a step later = IsOnEntry entry notifies a step later
IsOnAnswered Dropped entry a step later = IsRest a step later
IsOnAnswered Stale entry a step later = IsRest a step later

abbrev pub IsOnGrant : Entry → ℕ → ℕ → ClassActor → Step ClassAct → ClassActor → Type 0
IsOnGrant entry request serial a step later =
    (did : Answered) × (node : KeptNode)
    × IsAnswered (node_of a.node) (reply.Granted a.class request entry.inter serial) did
    × IsLeftByReply (reply.Granted a.class request entry.inter serial) did (node_of a.node)
    (node_of node)
    × IsOnAnswered did entry (record a { node = node }) step later

-- a request is refused by this reply, which is counted
abbrev pub IsOnRefusal : Reply → ClassActor → Step ClassAct → ClassActor → Type 0
IsOnRefusal reply a step later =
    (did : Answered) × (node : KeptNode) × IsAnswered (node_of a.node) reply did
    × IsLeftByReply reply did (node_of a.node) (node_of node)
    × IsRest
    (record a {
      node = node;
      counts = record a.counts { refusals = counted_up a.counts.refusals };
    })
    step later

-- this has become of the grant of its request with this number, which has this serial: it stands in
-- the book, and is told; it waits still; or the book doesn't take it, and the node ends
abbrev pub IsOnOutcome : ℕ → ℕ → Outcome → ClassActor → Step ClassAct → ClassActor → Type 0
IsOnOutcome request serial (outcome.Entered entry) a step later =
    IsOnGrant entry request serial a step later
IsOnOutcome request serial outcome.Waits a step later =
    (step ≡ Over a.turn) × (later ≡ record a { errand = errand.Waits request serial })
IsOnOutcome request serial outcome.Refused a step later = (step ≡ Over Ends) × (later ≡ a)

-- want of memory is noted
abbrev pub with_fault : TableFault → Counts → Counts
with_fault fault.Memory counts = record counts { wanted_memory = true }
with_fault fault.Ended counts = counts
with_fault (fault.UnknownRow c) counts = counts
with_fault fault.NotKept counts = counts

-- the table answers the request with this number for this interaction; without an answer the node
-- ends
abbrev pub IsOnDecision : InterId → ℕ → Result Reserved TableFault → ClassActor → Step ClassAct
    → ClassActor → Type 0
IsOnDecision inter request (Ok (reserved.Granted entry serial)) a step later =
    IsOnGrant entry request serial a step later
IsOnDecision inter request (Ok (reserved.Refused c used)) a step later =
    IsOnRefusal (reply.Refused a.class request inter c used) a step later
IsOnDecision inter request (Err fault) a step later =
    (step ≡ Over Ends) × (later ≡ record a { counts = with_fault fault a.counts })

-- what the start makes of it: nothing
abbrev pub ClassStarts : ClassActor → Step ClassAct → ClassActor → Type 0
ClassStarts a step later = (step ≡ Over Nothing) × (later ≡ a)

-- what an offer makes of it: its node hears it, where its number isn't too great
abbrev pub IsOfferHeard : Offer → ClassActor → ClassActor → Type 0
IsOfferHeard offer a later =
    ((offer.number ≤ a.most)
    × ((got : Receipt) × IsReceipt (observed a.node.offers) offer got
    × (node_of later.node ≡ after_offer offer got (node_of a.node))
    × (later ≡ record a { node = later.node })))
    ⊎ ((a.most < offer.number) × (later ≡ a))

-- what a turn's first step makes of it: it takes the message, if there is one, and goes on with
-- what is to be ended, or tries the next interaction, behind a grant once that is told
abbrev pub begun : ClassActor → ClassActor
begun a = record a { turn = Done; has_tried = false }

abbrev pub ClassHearsOf : ToClass → ClassActor → Step ClassAct → ClassActor → Type 0
ClassHearsOf (heard.Offer offer) a step later =
    (heard : ClassActor) × IsOfferHeard offer a heard × IsNextDone heard step later
ClassHearsOf (heard.Granted entry request serial) a step later =
    IsOnGrant entry request serial a step later
ClassHearsOf (heard.Refused reply) a step later = IsOnRefusal reply a step later

abbrev pub ClassHears : ClassActor → Option ToClass → Step ClassAct → ClassActor → Type 0
ClassHears a None step later =
    IsNextDone (record a { turn = Nothing; has_tried = false }) step later
ClassHears a (Some message) step later = ClassHearsOf message (begun a) step later

-- what the answer makes of it that it waited for at a stage: a local grant that stands in the book
-- is told, and one that can't be next there ends the node; behind the gate it hands its request on,
-- or tells; what the table answers is heard; a request that found a row busy is asked again, and a
-- grant that waits is looked for, before anything new is tried; what is lost is counted
abbrev pub ClassAnsweredAt : Stage → ClassAnswer → ClassActor → Step ClassAct → ClassActor → Type 0
ClassAnsweredAt (Appending notifies) (answers.Appended (Some entry)) a step later =
    IsOnEntry entry notifies a step later
ClassAnsweredAt (Appending notifies) (answers.Appended None) a step later =
    (step ≡ Over Ends) × (later ≡ a)
ClassAnsweredAt (Asking q) answers.Passed a step later =
    (step ≡ Act (Ask q)) × (later ≡ record a { stage = Asked q.inter q.request })
ClassAnsweredAt (Asked inter request) (answers.Decided answer) a step later =
    IsOnDecision inter request answer a step later
ClassAnsweredAt (Asked inter request) (answers.Handed posted) a step later =
    (step ≡ Over Done) × (later ≡ record a { counts = with_posted posted a.counts })
ClassAnsweredAt (Asked inter request) (answers.Busy q) a step later =
    (step ≡ Over a.turn)
    × (later ≡ record a {
      errand = errand.Asks q;
      counts = record a.counts { busy = counted_up a.counts.busy };
    })
ClassAnsweredAt (Asked inter request) (answers.Waits serial) a step later =
    (step ≡ Over Done) × (later ≡ record a { errand = errand.Waits request serial })
ClassAnsweredAt (Looking request serial) (answers.Looked outcome) a step later =
    IsOnOutcome request serial outcome a step later
ClassAnsweredAt (Entered entry notifies) answers.Passed a step later =
    IsOnTold entry notifies 0
    (record a { counts = record a.counts { told = counted_up a.counts.told } }) step later
ClassAnsweredAt (Telling entry notifies k) (answers.Told posted) a step later =
    IsOnTold entry notifies (k + 1) (record a { counts = with_posted posted a.counts }) step later
ClassAnsweredAt stage answer a step later = ⊥

abbrev pub ClassGoesOn : ClassActor → ClassAnswer → Step ClassAct → ClassActor → Type 0
ClassGoesOn a answer step later =
    ClassAnsweredAt a.stage answer (record a { stage = Resting }) step later

-- what a table decides on a request: the entry of a grant is that of the request's
abbrev pub IsDecidedHere : Request → Reserved → Type 0
IsDecidedHere q (reserved.Granted entry serial) = IsEntryOf (grant_of q) entry
IsDecidedHere q (reserved.Refused c used) = ⊤

-- which answers an act can have: an entry is of the grant that was to be appended, or of that of
-- the request that was asked; a request that comes back is the one that was asked
abbrev pub ClassFits : ClassAct → ClassAnswer → Type 0
ClassFits (Append g) (answers.Appended entry) = IfSome entry (IsEntryOf g)
ClassFits (Ask q) (answers.Decided answer) = IfOk answer (IsDecidedHere q)
ClassFits (Ask q) (answers.Handed posted) = ⊤
ClassFits (Ask q) (answers.Busy back) = back ≡ q
ClassFits (Ask q) (answers.Waits serial) = ⊤
ClassFits Look (answers.Looked outcome) = ⊤
ClassFits (Pass at) answers.Passed = ⊤
ClassFits (Tell n) (answers.Told posted) = ⊤
ClassFits act answer = ⊥

-- what a class's actor waits for at a stage
abbrev pub ClassAwaits : ClassId → Stage → ClassAct → Type 0
ClassAwaits class Resting act = ⊥
ClassAwaits class (Appending notifies) act = (g : Grant) × (act ≡ Append g)
ClassAwaits class (Asking q) act = act ≡ Pass (point.Asked class q.inter)
ClassAwaits class (Asked inter request) act =
    (q : Request) × (act ≡ Ask q) × (q.inter ≡ inter) × (q.request ≡ request)
ClassAwaits class (Looking request serial) act = act ≡ Look
ClassAwaits class (Entered entry notifies) act =
    (act ≡ Pass (point.Told class entry.inter)) × (length notifies ≤ 8)
ClassAwaits class (Telling entry notifies k) act =
    (n : Notify) × (slice_get notifies k ≡ Some n) × (act ≡ Tell n)

-- how many acts can follow at a stage, and one more
abbrev pub rank_class : Stage → ℕ
rank_class Resting = 0
rank_class (Appending notifies) = 10
rank_class (Asking q) = 11
rank_class (Asked inter request) = 10
rank_class (Looking request serial) = 10
rank_class (Entered entry notifies) = 9
rank_class (Telling entry notifies k) = length notifies - k

-- how many acts can follow in a turn, with those of a try that is still to come
abbrev pub tries_left : Bool → ℕ
tries_left true = 0
tries_left false = 12

abbrev pub left_of_class : ClassActor → ℕ
left_of_class a = rank_class a.stage + tries_left a.has_tried
