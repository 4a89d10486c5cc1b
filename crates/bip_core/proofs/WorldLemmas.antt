-- What is kept of a world, as the world, and what its nodes leave.
use Rattle.std.proofs.Common.{◌≡◌, ◌⊎◌, ℕ, suc, take, drop, ◌<◌, ◌≤◌, List, [], ◌∷◌, ◌++◌, length}
use Rattle.std.proofs.Common.{set, get_or, Some, None, Option, true, false, inl, inr, refl, sym, ap}
use Rattle.std.proofs.Common.{◌∙◌, subst, slice_get, arith}
use Rattle.std.specs.Prelude.{All, Err, IfErr, IfSome, Ok, Result, vec_capacity}
use Rattle.std.specs.Global.{Vec}
use Rattle.std.specs.Option.{option_map}
use Rattle.std.proofs.Math.Path.{fun_ext}
use Rattle.std.proofs.lemmas.Bool.{cases_lt, false≢true, true≢false}
use Rattle.std.proofs.lemmas.Bool.Decides.{eqb_tells}
use Rattle.std.proofs.lemmas.List.{get_or-set_other, get_or-set_same, get_or_default, length-set}
use Rattle.std.proofs.lemmas.List.{set-get_or, length-take-le}
use Rattle.std.proofs.lemmas.List.Elements.{All-append, All-drop, All-head, All-push, All-tail}
use Rattle.std.proofs.lemmas.List.Elements.{All-take}
use Rattle.std.proofs.lemmas.Option.{get_or_from_slice_get, slice_get-get_or, slice_get_cases}
use Rattle.std.proofs.lemmas.Option.{slice_get_past, slice_get_within}
use Rattle.bip_model.specs.Numbering.{put}
use Rattle.bip_model.specs.declared.grants.Grant.{Grant}
use Rattle.bip_model.specs.declared.messages.Notify.{Notify}
use Rattle.bip_model.specs.declared.messages.Offer.{Offer}
use Rattle.bip_model.specs.declared.messages.Reply.{Reply}
use Rattle.bip_model.specs.declared.messages.Reply.TheVariants as reply
use Rattle.bip_model.specs.Parties.{AreParties}
use Rattle.bip_model.proofs.ListLemmas.{parted}
use Rattle.bip_bank.specs.declared.banks.BankStep.{BankStep}
use Rattle.bip_model.specs.Parts.{IsSystem}
use Rattle.bip_model.specs.declared.messages.Request.{Request}
use Rattle.bip_model.specs.declared.numbering.InterId.{InterId}
use Rattle.bip_model.specs.declared.parts.System.{System}
use Rattle.bip_model.proofs.PartyLemmas.{party_known}
use Rattle.bip_partition.specs.Plans.{IsReserved, Planned}
use Rattle.bip_partition.proofs.TableLemmas.{reserved_known}
use Rattle.bip_bank.specs.Decisions.{grant_of}
use Rattle.bip_bank.specs.Decisions.Decision.TheVariants as decision
use Rattle.bip_bank.specs.declared.banks.Acted.{Acted}
use Rattle.bip_bank.specs.declared.banks.Acted.TheVariants as acted
use Rattle.bip_observe.specs.declared.offers.Receipt.{Receipt}
use Rattle.bip_observe.specs.declared.offers.Receipt.TheVariants.{Held, Old, Stranger}
use Rattle.bip_component.specs.Components.{IsNodeAfter, IsNotified, Node}
use Rattle.bip_component.specs.declared.components.Notified.{Notified}
use Rattle.bip_component.specs.declared.components.Notified.TheVariants as notified
use Rattle.bip_ip.specs.Nodes.{CanBeAsked, ClassNode, IsAnswered, IsLeftByReply, IsTried, KeptNode}
use Rattle.bip_ip.specs.Nodes.{after_offer, after_try, node_of, tried_of}
use Rattle.bip_ip.specs.declared.nodes.Answered.{Answered}
use Rattle.bip_ip.specs.declared.nodes.Answered.TheVariants as answered
use Rattle.bip_ip.specs.declared.nodes.Tried.{Tried}
use Rattle.bip_ip.specs.declared.nodes.Tried.TheVariants as tried
use Rattle.bip_ip.specs.declared.nodes.WhyNot.{WhyNot}
use Rattle.bip_ip.specs.declared.nodes.WhyNot.TheVariants as why_not
use Rattle.bip_bank.specs.Banks.{BankContent, CanWantMemory, DoesStep, IsActed, KeptBank}
use Rattle.bip_bank.specs.Banks.{content_of, with_request}
use Rattle.bip_bank.specs.declared.banks.BankStep.TheVariants.{Ask, Deliver, Pass, Serve}
use Rattle.bip_core.specs.Worlds.{IsKnownGrant, IsKeptWorld, KeepsWhatFits, KeptWorld, WorldContent}
use Rattle.bip_core.specs.Worlds.{with_class_node, with_component_node, world_of}
use Rattle.bip_core.specs.Letters.{CanBeHandedOn, IsNumberedRequest}
use Rattle.bip_core.specs.Traces.{trace_by}
use Rattle.bip_partition.specs.Laws.{IsPlanned}
use Rattle.bip_model.specs.declared.numbering.ClassId.{ClassId}
use Rattle.bip_observe.specs.Offers.{IsReceipt, observed}
use Rattle.bip_core.specs.Events.{AreSent, CanBeSkipped, IsCounted, IsFullFor, IsMailHandedOn}
use Rattle.bip_core.specs.Events.{IsDone}
use Rattle.bip_core.specs.Events.{IsHandedOn, IsSending, IsTakenIn, IsTraced, SendsWhatFits}
use Rattle.bip_core.specs.Events.{StepCanBeSkipped, TakesOut, grant_acted, grant_in, grant_tried}
use Rattle.bip_core.specs.Events.{is_serving, effect_of, trace_with, class_named}
use Rattle.bip_core.specs.declared.events.Event.{Event}
use Rattle.bip_core.specs.declared.events.Event.TheVariants.{Bank, Mail, Try}
use Rattle.bip_core.specs.declared.events.What.TheVariants.{Acts, Hears, Learns, Moves, Nothing}
use Rattle.bip_core.specs.declared.events.What.TheVariants.{Submits, Tries}
use Rattle.bip_core.specs.declared.events.What.{What}
use Rattle.bip_core.specs.declared.messages.Message.TheVariants.{NotifyComponent, OfferTo}
use Rattle.bip_core.specs.declared.messages.Message.TheVariants.{ReplyToClass, RequestToBank}
use Rattle.bip_core.specs.declared.messages.Message.{Message}
use Rattle.bip_core.specs.declared.outcomes.Effect.TheVariants as effect
use Rattle.bip_core.specs.declared.outcomes.Outcome.{Outcome}
use Rattle.bip_core.proofs.SendLemmas.{put_fit, sends_nothing}

-- what is kept of a world, by its parts, of which one is its own list of grants
abbrev pub kept_by : Planned → List Node → List KeptNode → List Message → Vec Grant → KeptBank
    → KeptWorld
kept_by p components classes mail own bank = record {
  plan = p;
  components = components;
  classes = classes;
  mail = mail;
  trace = trace_by own.items (content_of bank).grants;
  bank =
      bank;
  room = vec_capacity own;
}

-- with another bank of the same content the world is the same
pub same_bank : (p : Planned) (components : List Node) (classes : List KeptNode)
    (mail : List Message) (own : Vec Grant) (bank b : KeptBank) → content_of b ≡ content_of bank
    → world_of (kept_by p components classes mail own b) ≡ world_of
    (kept_by p components classes mail own bank)
same_bank p components classes mail own bank b is =
    ap (λ (x : BankContent). record (world_of (kept_by p components classes mail own bank)) {
      trace = trace_by own.items x.grants;
      bank = x;
    }) is

-- and with one more open request the trace is
pub asked_bank : (p : Planned) (components : List Node) (classes : List KeptNode)
    (mail : List Message) (own : Vec Grant) (bank b : KeptBank) (q : Request)
    → content_of b ≡ with_request q (content_of bank)
    → world_of (kept_by p components classes mail own b)
    ≡ record (world_of (kept_by p components classes mail own bank)) {
      bank = with_request q (content_of bank);
    }
asked_bank p components classes mail own bank b q is =
    ap (λ (x : BankContent). record (world_of (kept_by p components classes mail own bank)) {
      trace = trace_by own.items x.grants;
      bank = x;
    }) is

-- with a bank of the same grants
pub traced_kept : (w : KeptWorld) (own : List Grant) (b : KeptBank) → b.grants ≡ w.bank.grants
    → w.trace ≡ trace_by own w.bank.grants → IsKeptWorld (record w { bank = b })
    → IsKeptWorld (record w { trace = trace_by own b.grants; bank = b })
traced_kept w own b same is kept =
    subst (λ (trace : List Grant). IsKeptWorld (record w { trace = trace; bank = b }))
    (is ∙ ap (trace_by own) (sym same)) kept

-- with another room
pub room_kept : (w : KeptWorld) (room : ℕ) → IsKeptWorld w → IsKeptWorld (record w { room = room })
room_kept w room kept = record {
  each_component = kept.each_component;
  each_class = kept.each_class;
  components = kept.components;
  classes = kept.classes;
  fits = kept.fits;
  bank = kept.bank;
  mail = kept.mail;
  waiting = kept.waiting;
  grants = kept.grants;
}

-- a list with another element at a place, as a function of places
pub slice_get-set : {X : Type 0} (xs : List X) (n : ℕ) (x : X) → n < length xs
    → (λ k. slice_get (set xs n x) k) ≡ put (λ k. slice_get xs k) n (Some x)
slice_get-set xs n x within = fun_ext (λ k. elim (eqb_tells k n) [
  | inl same ↦ rw (same.0, same.1) (slice_get-get_or (set xs n x) n x
      (rw (length-set xs n x) within) ∙ ap Some (get_or-set_same xs n x x within))
  | inr other ↦ elim (cases_lt k (length xs)) [
    | inl inside ↦ rw other.0 (slice_get-get_or (set xs n x) k x (rw (length-set xs n x) inside)
        ∙ (ap Some (get_or-set_other xs n k x x other.1) ∙ sym (slice_get-get_or xs k x inside)))
    | inr past ↦ rw other.0 (slice_get_past (set xs n x) k (rw (length-set xs n x) past)
        ∙ sym (slice_get_past xs k past))
  ]
])

-- and as a function of another kind
put-map : {X Y : Type 0} (v : X → Y) (f : ℕ → Option X) (n : ℕ) (x : X)
    → (λ k. option_map v (put f n (Some x) k)) ≡ put (λ k. option_map v (f k)) n (Some (v x))
put-map v f n x = fun_ext (λ k. elim (eqb_tells k n) [
  | inl same ↦ rw same.0 refl
  | inr other ↦ rw other.0 refl
])

pub read_classes : (xs : List KeptNode) (n : ℕ) (x : KeptNode) → n < length xs
    → (λ k. option_map node_of (slice_get (set xs n x) k)) ≡ put
    (λ k. option_map node_of (slice_get xs k)) n (Some (node_of x))
read_classes xs n x within = ap (λ (f : ℕ → Option KeptNode). λ k. option_map node_of (f k))
    (slice_get-set xs n x within) ∙ put-map node_of (λ k. slice_get xs k) n x

-- a world by its nodes
abbrev of_classes : WorldContent → (ℕ → Option ClassNode) → WorldContent
of_classes w f = record w { classes = f }

abbrev of_components : WorldContent → (ℕ → Option Node) → WorldContent
of_components w f = record w { components = f }

-- with another node of a class
pub class_put : (w : KeptWorld) (k : ℕ) (n : KeptNode) (v : ClassNode) → k < length w.classes
    → node_of n ≡ v → world_of (record w { classes = set w.classes k n }) ≡ with_class_node k v
    (world_of w)
class_put w k n v within is =
    ap (of_classes (world_of w)) (read_classes w.classes k n within)
    ∙ ap (λ (u : ClassNode). with_class_node k u (world_of w)) is

pub component_put : (w : KeptWorld) (c : ℕ) (n : Node) → c < length w.components
    → world_of (record w { components = set w.components c n }) ≡ with_component_node c n
    (world_of w)
component_put w c n within = ap (of_components (world_of w)) (slice_get-set w.components c n within)

-- what is read of nodes of which one was put
put_read : {X : Type 0} (xs : List X) (n : ℕ) (x : X) (k : ℕ) (y : X) → n < length xs
    → slice_get (set xs n x) k ≡ Some y → ((k ≡ n) × (x ≡ y)) ⊎ (slice_get xs k ≡ Some y)
put_read {X} xs n x k y within is =
    let read = ap (λ (g : ℕ → Option X). g k) (slice_get-set xs n x within) in
    elim (eqb_tells k n) [
      | inl same ↦
          let both : Some x ≡ Some y = rw same.0 at (sym read ∙ is) in
          inl (same.1, cc)
      | inr other ↦ inr (rw other.0 at (sym read ∙ is))
    ]

-- a node of the same plan and class stands well in its place
pub class_kept : (w : KeptWorld) (k : ℕ) (n old : KeptNode) → k < length w.classes
    → slice_get w.classes k ≡ Some old → n.offers.plan ≡ old.offers.plan
    → n.offers.class ≡ old.offers.class → KeepsWhatFits w.plan (node_of n) → IsKeptWorld w
    → IsKeptWorld (record w { classes = set w.classes k n })
class_kept w k n old within is plan class fits kept = record {
  each_component = kept.each_component;
  each_class = length-set w.classes k n ∙ kept.each_class;
  components = kept.components;
  classes = λ j node read. elim (put_read w.classes k n j node within read) [
    | inl here ↦
        let before = kept.classes k old is in
        rw (← here.1, here.0) (plan ∙ before.0, class ∙ before.1)
    | inr there ↦ kept.classes j node there
  ];
  fits = λ j node read. elim (put_read w.classes k n j node within read) [
    | inl here ↦ rw (← here.1) fits
    | inr there ↦ kept.fits j node there
  ];
  bank = kept.bank;
  mail = kept.mail;
  waiting = kept.waiting;
  grants = kept.grants;
}

pub component_kept : (w : KeptWorld) (c : ℕ) (n old : Node) → c < length w.components
    → slice_get w.components c ≡ Some old → n.plan ≡ old.plan → n.comp ≡ old.comp → IsKeptWorld w
    → IsKeptWorld (record w { components = set w.components c n })
component_kept w c n old within is plan comp kept = record {
  each_component = length-set w.components c n ∙ kept.each_component;
  each_class = kept.each_class;
  components = λ j node read. elim (put_read w.components c n j node within read) [
    | inl here ↦
        let before = kept.components c old is in
        rw (← here.1, here.0) (plan ∙ before.0, comp ∙ before.1)
    | inr there ↦ kept.components j node there
  ];
  classes = kept.classes;
  fits = kept.fits;
  bank = kept.bank;
  mail = kept.mail;
  waiting = kept.waiting;
  grants = kept.grants;
}

-- what nodes do leaves them of their plan
pub heard_same : (offer : Offer) (receipt : Receipt) (v later : ClassNode)
    → later ≡ after_offer offer receipt v → (later.offers.plan ≡ v.offers.plan)
    × (later.offers.class ≡ v.offers.class)
heard_same offer Held v later is = (
  ap (λ (u : ClassNode). u.offers.plan) is,
  ap (λ (u : ClassNode). u.offers.class) is,
)
heard_same offer Old v later is = (
  ap (λ (u : ClassNode). u.offers.plan) is,
  ap (λ (u : ClassNode). u.offers.class) is,
)
heard_same offer Stranger v later is = (
  ap (λ (u : ClassNode). u.offers.plan) is,
  ap (λ (u : ClassNode). u.offers.class) is,
)

pub tried_same : (a : ℕ) (did : Tried) (v later : ClassNode) → later ≡ after_try a did v
    → (later.offers.plan ≡ v.offers.plan) × (later.offers.class ≡ v.offers.class)
tried_same a tried.Foreign v later is = (
  ap (λ (u : ClassNode). u.offers.plan) is,
  ap (λ (u : ClassNode). u.offers.class) is,
)
tried_same a (tried.Pending b) v later is = (
  ap (λ (u : ClassNode). u.offers.plan) is,
  ap (λ (u : ClassNode). u.offers.class) is,
)
tried_same a (tried.Not w) v later is = (
  ap (λ (u : ClassNode). u.offers.plan) is,
  ap (λ (u : ClassNode). u.offers.class) is,
)
tried_same a (tried.Local g notifies) v later is =
    (ap (λ (u : ClassNode). u.offers.plan) is, ap (λ (u : ClassNode). u.offers.class) is)
tried_same a tried.Ended v later is = (
  ap (λ (u : ClassNode). u.offers.plan) is,
  ap (λ (u : ClassNode). u.offers.class) is,
)
tried_same a (tried.Sent q) v later is = (
  ap (λ (u : ClassNode). u.offers.plan) is,
  ap (λ (u : ClassNode). u.offers.class) is,
)

pub replied_same : (r : Reply) (did : Answered) (v later : ClassNode) → IsAnswered v r did
    → IsLeftByReply r did v later → (later.offers.plan ≡ v.offers.plan)
    × (later.offers.class ≡ v.offers.class)
replied_same (reply.Granted k q a s) (answered.Told notifies) v later is left =
    let same = left is.0 is.1 in
    (ap (λ (u : ClassNode). u.offers.plan) same, ap (λ (u : ClassNode). u.offers.class) same)
replied_same (reply.Granted k q a s) answered.Dropped v later is left = absurd is
replied_same (reply.Granted k q a s) answered.Stale v later is left =
    (ap (λ (u : ClassNode). u.offers.plan) left, ap (λ (u : ClassNode). u.offers.class) left)
replied_same (reply.Refused k q a c n) (answered.Told notifies) v later is left = absurd is
replied_same (reply.Refused k q a c n) answered.Dropped v later is left = (left.plan, left.class)
replied_same (reply.Refused k q a c n) answered.Stale v later is left =
    (ap (λ (u : ClassNode). u.offers.plan) left, ap (λ (u : ClassNode). u.offers.class) left)

pub notified_same : (node later : Node) (n : Notify) (did : Notified) → IsNodeAfter node n did later
    → (later.plan ≡ node.plan) × (later.comp ≡ node.comp)
notified_same node later n (notified.Moved offer) is =
    (ap (λ (u : Node). u.plan) is, ap (λ (u : Node). u.comp) is)
notified_same node later n notified.Spent is =
    (ap (λ (u : Node). u.plan) is, ap (λ (u : Node). u.comp) is)
notified_same node later n notified.Stale is =
    (ap (λ (u : Node). u.plan) is, ap (λ (u : Node). u.comp) is)

-- what is read at a place of a list
pub read_here : {X : Type 0} (xs : List X) (n : ℕ) (x : X) → n < length xs → x ≡ get_or xs n x
    → slice_get xs n ≡ Some x
read_here xs n x within is = slice_get-get_or xs n x within ∙ ap Some (sym is)

-- an offer that was handed on
pub heard_on : (w : KeptWorld) (k : ClassId) (offer : Offer) (receipt : Receipt) (old n : KeptNode)
    → slice_get w.classes k.0 ≡ Some old → IsReceipt (observed old.offers) offer receipt
    → node_of n ≡ after_offer offer receipt (node_of old)
    → IsHandedOn (world_of w) (OfferTo k offer) (Hears receipt)
    (world_of (record w { classes = set w.classes k.0 n }))
heard_on w k offer receipt old n is receives left = (
  node_of old,
  ap (option_map node_of) is,
  receives,
  class_put w k.0 n (after_offer offer receipt (node_of old))
      (slice_get_within w.classes k.0 old is) left,
)

-- a notification
pub moved_on : (w : KeptWorld) (c : ℕ) (n : Notify) (did : Notified) (old later : Node)
    → c ≡ n.comp.0 → slice_get w.components c ≡ Some old → c < length w.components
    → IsNotified old n did → IsNodeAfter old n did later
    → IsHandedOn (world_of w) (NotifyComponent n) (Moves did)
    (world_of (record w { components = set w.components c later }))
moved_on w c n did old later named is within answer after = (
  old,
  later,
  subst (λ (k : ℕ). slice_get w.components k ≡ Some old) named is,
  answer,
  after,
  subst (λ (k : ℕ). world_of (record w { components = set w.components c later })
      ≡ with_component_node k later (world_of w)) named (component_put w c later within),
)

-- a reply
pub learned_on : (w : KeptWorld) (k : ℕ) (r : Reply) (did : Answered) (old n : KeptNode)
    → k ≡ class_named r → slice_get w.classes k ≡ Some old → IsAnswered (node_of old) r did
    → IsLeftByReply r did (node_of old) (node_of n)
    → IsHandedOn (world_of w) (ReplyToClass r) (Learns did)
    (world_of (record w { classes = set w.classes k n }))
learned_on w k r did old n named is answered left =
    rw (← named) (
      node_of old,
      node_of n,
      ap (option_map node_of) is,
      answered,
      left,
      class_put w k n (node_of n) (slice_get_within w.classes k old is) refl,
    )

-- a grant of what an interaction of the plan's model wants
pub wanted_grant : (m : System) (g : Grant) → IsSystem m → g.inter.0 < length m.interactions
    → AreParties m g.inter.0 g.wants → IsKnownGrant m g
wanted_grant m g valid declared parties = record {
  inter = declared;
  wants = λ k d within.
      let w = get_or g.wants k d in
      party_known m g.inter.0 g.wants w valid parties
      (k, within, get_or_default g.wants k w d within);
}

-- with one more grant
pub grants_with : (m : System) (trace : List Grant) (given : Option Grant)
    → All (IsKnownGrant m) trace → IfSome given (IsKnownGrant m)
    → All (IsKnownGrant m) (trace_with trace given)
grants_with m trace None all one = all
grants_with m trace (Some g) all one = All-push (IsKnownGrant m) trace g all one

-- a try of a reserved interaction grants nothing
pub no_grant : (v : ClassNode) (a : ℕ) (did : Tried) → IsTried v a did → IsReserved v.offers.plan a
    → grant_tried did ≡ None
no_grant v a tried.Foreign is reserved = refl
no_grant v a (tried.Pending b) is reserved = refl
no_grant v a (tried.Not x) is reserved = refl
no_grant v a (tried.Local g notifies) is reserved = absurd (is.1 reserved)
no_grant v a tried.Ended is reserved = refl
no_grant v a (tried.Sent q) is reserved = refl

-- what a try grants is of the model
pub tried_grant : (v : ClassNode) (a : ℕ) (did : Tried) → IsSystem v.offers.plan.model
    → IsTried v a did → IfSome (grant_tried did) (IsKnownGrant v.offers.plan.model)
tried_grant v a tried.Foreign valid is = tt
tried_grant v a (tried.Pending b) valid is = tt
tried_grant v a (tried.Not x) valid is = tt
tried_grant v a (tried.Local g notifies) valid is =
    wanted_grant v.offers.plan.model g valid (rw is.2 is.0.own.declared)
    (subst (λ (b : ℕ). AreParties v.offers.plan.model b g.wants) (sym is.2) is.3.parties)
tried_grant v a tried.Ended valid is = tt
tried_grant v a (tried.Sent q) valid is = tt

-- a world whose trace a grant joins
pub trace_kept : (w : KeptWorld) (given : Option Grant) → IfSome given (IsKnownGrant w.plan.model)
    → IsKeptWorld w → IsKeptWorld (record w { trace = trace_with w.trace given })
trace_kept w given one kept = record {
  each_component = kept.each_component;
  each_class = kept.each_class;
  components = kept.components;
  classes = kept.classes;
  fits = kept.fits;
  bank = kept.bank;
  mail = kept.mail;
  waiting = kept.waiting;
  grants = grants_with w.plan.model w.trace given kept.grants one;
}

-- what a class tried
pub tried_on : (w : KeptWorld) (k : ClassId) (a : InterId) (did : Tried) (old n : KeptNode)
    → slice_get w.classes k.0 ≡ Some old → IsTried (node_of old) a.0 did
    → node_of n ≡ after_try a.0 did (node_of old)
    → IsTraced (world_of w) (Try k a) (Tries did)
    (world_of (record w {
      classes = set w.classes k.0 n;
      trace = trace_with w.trace (grant_tried did);
    }))
tried_on w k a did old n is tries left = record {
  middle = with_class_node k.0 (after_try a.0 did (node_of old)) (world_of w);
  done = (node_of old, ap (option_map node_of) is, tries, refl);
  after = ap (λ (v : WorldContent). record v { trace = trace_with w.trace (grant_tried did) })
      (class_put w k.0 n (after_try a.0 did (node_of old))
      (slice_get_within w.classes k.0 old is) left);
}

-- what a step of a bank leaves of requests that fit
pub acted_fit : (p : Planned) (did : Acted) (b later : BankContent) → IsActed did b later
    → ((a : ℕ) → All (IsNumberedRequest p) (b.waiting a)) → (a : ℕ)
    → All (IsNumberedRequest p) (later.waiting a)
acted_fit p acted.Nothing b later is fit a = rw (ap (λ (c : BankContent). c.waiting a) is) (fit a)
acted_fit p acted.Moved b later is fit a = rw (ap (λ (c : BankContent). c.waiting a) is) (fit a)
acted_fit p (acted.Answered q d) b later is fit a =
    rw (ap (λ (c : BankContent). c.waiting a) is.after) (elim (eqb_tells a q.inter.0) [
      | inl same ↦ rw same.0 (All-tail (IsNumberedRequest p) q is.rest
          (subst (λ (l : List Request). All (IsNumberedRequest p) l) is.oldest (fit q.inter.0)))
      | inr other ↦ rw other.0 (fit a)
    ])

-- and of its plan
pub acted_plan : (did : Acted) (b later : BankContent) → IsActed did b later → later.plan ≡ b.plan
acted_plan acted.Nothing b later is = ap (λ (c : BankContent). c.plan) is
acted_plan acted.Moved b later is = ap (λ (c : BankContent). c.plan) is
acted_plan (acted.Answered q (decision.Granted serial)) b later is =
    ap (λ (c : BankContent). c.plan) is.after
acted_plan (acted.Answered q (decision.Refused c n)) b later is =
    ap (λ (x : BankContent). x.plan) is.after

-- what a bank grants is of the model
pub acted_grant : (p : Planned) (did : Acted) (b later : BankContent) → IsSystem p.model
    → IsActed did b later → ((a : ℕ) → All (IsNumberedRequest p) (b.waiting a))
    → IfSome (grant_acted did) (IsKnownGrant p.model)
acted_grant p acted.Nothing b later valid is fit = tt
acted_grant p acted.Moved b later valid is fit = tt
acted_grant p (acted.Answered q (decision.Granted serial)) b later valid is fit =
    let fits = All-head (IsNumberedRequest p) q is.rest
    (subst (λ (l : List Request). All (IsNumberedRequest p) l) is.oldest (fit q.inter.0)) in
    wanted_grant p.model (grant_of q) valid (reserved_known p q.inter.0 valid fits.fit.reserved)
    fits.fit.parties
acted_grant p (acted.Answered q (decision.Refused c n)) b later valid is fit = tt

-- a world whose bank did a step
pub bank_kept : (w : KeptWorld) (b : KeptBank) (did : Acted)
    → IsActed did (content_of w.bank) (content_of b) → IsKeptWorld w
    → IsKeptWorld (record w { bank = b })
bank_kept w b did is kept = record {
  each_component = kept.each_component;
  each_class = kept.each_class;
  components = kept.components;
  classes = kept.classes;
  fits = kept.fits;
  bank = acted_plan did (content_of w.bank) (content_of b) is ∙ kept.bank;
  mail = kept.mail;
  waiting = acted_fit w.plan did (content_of w.bank) (content_of b) is kept.waiting;
  grants = kept.grants;
}

-- what a class tried without a grant
pub tried_without : (w : KeptWorld) (k : ClassId) (a : InterId) (did : Tried) (old n : KeptNode)
    → slice_get w.classes k.0 ≡ Some old → IsTried (node_of old) a.0 did
    → node_of n ≡ after_try a.0 did (node_of old) → grant_tried did ≡ None
    → IsTraced (world_of w) (Try k a) (Tries did)
    (world_of (record w { classes = set w.classes k.0 n }))
tried_without w k a did old n is tries left none =
    let whole = tried_on w k a did old n is tries left in
    subst (λ (given : Option Grant). IsTraced (world_of w) (Try k a) (Tries did)
    (world_of (record w { classes = set w.classes k.0 n; trace = trace_with w.trace given })))
    none whole

-- a list with an element where that stands
set_there : (xs : List KeptNode) (n : ℕ) (x : KeptNode) → slice_get xs n ≡ Some x → set xs n x ≡ xs
set_there xs n x is = subst (λ (y : KeptNode). set xs n y ≡ xs) (get_or_from_slice_get xs n x x is)
    (set-get_or xs n x)

-- a try that asks for nothing leaves the world as it was
tried_idly : (w : KeptWorld) (k : ClassId) (a : InterId) (did : Tried) (old : KeptNode)
    → slice_get w.classes k.0 ≡ Some old → IsTried (node_of old) a.0 did
    → node_of old ≡ after_try a.0 did (node_of old) → grant_tried did ≡ None
    → IsTraced (world_of w) (Try k a) (Tries did) (world_of w)
tried_idly w k a did old is tries left none =
    subst (λ (nodes : List KeptNode). IsTraced (world_of w) (Try k a) (Tries did)
    (world_of (record w { classes = nodes }))) (set_there w.classes k.0 old is)
    (tried_without w k a did old old is tries left none)

-- a step of the bank, with the grant that it gives
pub acted_on : (w : KeptWorld) (b : KeptBank) (step : BankStep) (did : Acted) (given : Option Grant)
    → DoesStep (content_of w.bank) step did (content_of b)
    → IsActed did (content_of w.bank) (content_of b) → grant_acted did ≡ given
    → IsTraced (world_of w) (Bank step) (Acts did)
    (world_of (record w { bank = b; trace = trace_with w.trace given }))
acted_on w b step did given does is same = record {
  middle = record (world_of w) { bank = content_of b };
  done = (content_of b, does, is, refl);
  after = ap (λ (x : Option Grant). record (world_of w) {
    bank = content_of b;
    trace = trace_with w.trace x;
  }) (sym same);
}

-- what a message that is taken out leaves
pub taken_out : (mail : List Message) (place : ℕ) (message : Message)
    → slice_get mail place ≡ Some message → TakesOut place message mail
    (take place mail ++ drop (suc place) mail)
taken_out mail place message is =
    let within = slice_get_within mail place message is in
    record {
      front = take place mail;
      back = drop (suc place) mail;
      before = length-take-le place mail (omega (arith, within));
      whole = sym (subst (λ (m : Message). take place mail ++ m ∷ drop (suc place) mail ≡ mail)
          (get_or_from_slice_get mail place message message is) (parted mail place message within));
      others = refl;
    }

-- what is in flight is accepted without one message
pub rest_fits : (p : Planned) (mail : List Message) (place : ℕ) → place < length mail
    → All (CanBeHandedOn p) mail → All (CanBeHandedOn p) (take place mail ++ drop (suc place) mail)
rest_fits p mail place within all = All-append (CanBeHandedOn p) (take place mail)
    (drop (suc place) mail) (All-take (CanBeHandedOn p) place mail all)
    (All-drop (CanBeHandedOn p) (suc place) mail all)

-- a request that is submitted
pub submitted_kept : (w : KeptWorld) (b : KeptBank) (q : Request) → IsNumberedRequest w.plan q
    → content_of b ≡ with_request q (content_of w.bank) → IsKeptWorld w
    → IsKeptWorld (record w { bank = b })
submitted_kept w b q fit is kept = record {
  each_component = kept.each_component;
  each_class = kept.each_class;
  components = kept.components;
  classes = kept.classes;
  fits = kept.fits;
  bank = ap (λ (x : BankContent). x.plan) is ∙ kept.bank;
  mail = kept.mail;
  waiting = λ a. rw (ap (λ (x : BankContent). x.waiting a) is) (elim (eqb_tells a q.inter.0) [
    | inl same ↦ rw same.0 (All-push (IsNumberedRequest w.plan)
        ((content_of w.bank).waiting q.inter.0) q (kept.waiting q.inter.0) fit)
    | inr other ↦ rw other.0 (kept.waiting a)
  ]);
  grants = kept.grants;
}

-- with other messages that are accepted
pub mail_kept : (w : KeptWorld) (mail : List Message) → All (CanBeHandedOn w.plan) mail
    → IsKeptWorld w → IsKeptWorld (record w { mail = mail })
mail_kept w mail fits kept = record {
  each_component = kept.each_component;
  each_class = kept.each_class;
  components = kept.components;
  classes = kept.classes;
  fits = kept.fits;
  bank = kept.bank;
  mail = fits;
  waiting = kept.waiting;
  grants = kept.grants;
}

-- a message that is handed on is answered
is_answered : (w : WorldContent) (message : Message) (v : WorldContent)
    → IsHandedOn w message Nothing v → ⊥
is_answered w (OfferTo k o) v on = on
is_answered w (RequestToBank q) v on = on
is_answered w (ReplyToClass r) v on = on
is_answered w (NotifyComponent n) v on = on

-- a delivery is what an event does
done_mail : (w : WorldContent) (place : ℕ) (what : What) (v : WorldContent)
    → IsMailHandedOn place w what v → IsDone w (Mail place) what v
done_mail w place Nothing v d = absurd (is_answered (record w { mail = d.rest }) d.message v d.on)
done_mail w place (Hears r) v d = d
done_mail w place Submits v d = d
done_mail w place (Learns r) v d = d
done_mail w place (Moves r) v d = d
done_mail w place (Tries r) v d = d
done_mail w place (Acts r) v d = d

-- and gives no grant
nothing_granted : (w : WorldContent) (message : Message) (what : What) (v : WorldContent)
    → IsHandedOn w message what v → grant_in what ≡ None
nothing_granted w message Nothing v on = refl
nothing_granted w message (Hears r) v on = refl
nothing_granted w message Submits v on = refl
nothing_granted w message (Learns r) v on = refl
nothing_granted w message (Moves r) v on = refl
nothing_granted w (OfferTo k o) (Tries r) v on = absurd on
nothing_granted w (RequestToBank q) (Tries r) v on = absurd on
nothing_granted w (ReplyToClass x) (Tries r) v on = absurd on
nothing_granted w (NotifyComponent n) (Tries r) v on = absurd on
nothing_granted w (OfferTo k o) (Acts r) v on = absurd on
nothing_granted w (RequestToBank q) (Acts r) v on = absurd on
nothing_granted w (ReplyToClass x) (Acts r) v on = absurd on
nothing_granted w (NotifyComponent n) (Acts r) v on = absurd on

-- a message that was taken out and handed on
pub delivered : (w k : KeptWorld) (place : ℕ) (message : Message) (what : What) (v : WorldContent)
    → TakesOut place message w.mail k.mail → k ≡ record w { mail = k.mail }
    → IsHandedOn (world_of k) message what v
    → IsTraced (world_of w) (Mail place) what v
delivered w k place message what v taken same on =
    let none = nothing_granted (world_of k) message what v on in
    record {
      middle = v;
      done = done_mail (world_of w) place what v
          (record {
            message = message;
            rest = k.mail;
            taken = taken;
            on = subst (λ (u : WorldContent). IsHandedOn u message what v) (ap world_of same) on;
          });
      after = sym (ap (λ (x : Option Grant). record v { trace = trace_with v.trace x }) none);
    }

-- there is no such message
pub no_mail : (w : KeptWorld) (place : ℕ) → length w.mail ≤ place
    → IsTraced (world_of w) (Mail place) Nothing (world_of w)
no_mail w place past = record { middle = world_of w; done = (past, refl); after = refl }

-- a request in flight can be lost for want of memory
pub request_skipped : (w : KeptWorld) (place : ℕ) (q : Request)
    → slice_get w.mail place ≡ Some (RequestToBank q) → CanBeSkipped (world_of w) (Mail place)
request_skipped w place q is = (
  q,
  take place w.mail ++ drop (suc place) w.mail,
  taken_out w.mail place (RequestToBank q) is,
)

-- no step grants but one that serves a station
pub unserved_grants_nothing : (b : BankContent) (step : BankStep) (did : Acted)
    (later : BankContent) → DoesStep b step did later → is_serving step ≡ false
    → grant_acted did ≡ None
unserved_grants_nothing b (Serve s) did later does unserved = absurd (true≢false unserved)
unserved_grants_nothing b (Deliver k) acted.Nothing later does unserved = refl
unserved_grants_nothing b (Deliver k) acted.Moved later does unserved = refl
unserved_grants_nothing b (Deliver k) (acted.Answered q d) later does unserved = absurd does
unserved_grants_nothing b (Pass s t) acted.Nothing later does unserved = refl
unserved_grants_nothing b (Pass s t) acted.Moved later does unserved = refl
unserved_grants_nothing b (Pass s t) (acted.Answered q d) later does unserved = absurd does
unserved_grants_nothing b (Ask s t) acted.Nothing later does unserved = refl
unserved_grants_nothing b (Ask s t) acted.Moved later does unserved = refl
unserved_grants_nothing b (Ask s t) (acted.Answered q d) later does unserved = absurd does

-- the steps of a bank that can be skipped
pub serving_skipped : (w : WorldContent) (step : BankStep) → is_serving step ≡ true
    → length w.bank.grants < length w.trace → StepCanBeSkipped w step
serving_skipped w (Serve s) serves more = inr more
serving_skipped w (Deliver k) serves more = absurd (false≢true serves)
serving_skipped w (Pass s t) serves more = absurd (false≢true serves)
serving_skipped w (Ask s t) serves more = absurd (false≢true serves)

-- and where the world has no room
pub serving_full : (w : KeptWorld) (step : BankStep) → is_serving step ≡ true
    → w.room ≤ length w.trace → IsFullFor w (Bank step)
serving_full w (Serve s) serves full = inr full
serving_full w (Deliver k) serves full = tt
serving_full w (Pass s t) serves full = tt
serving_full w (Ask s t) serves full = tt

pub wanting_skipped : (w : WorldContent) (step : BankStep) → CanWantMemory w.bank step
    → StepCanBeSkipped w step
wanting_skipped w (Serve s) wants = inl wants
wanting_skipped w (Deliver k) wants = wants
wanting_skipped w (Pass s t) wants = wants
wanting_skipped w (Ask s t) wants = wants

-- a try that asks for a local interaction can be skipped
pub try_skipped : (w : KeptWorld) (k : ClassId) (a : InterId) → k.0 < length w.classes
    → ((node : KeptNode) → slice_get w.classes k.0 ≡ Some node → CanBeAsked (node_of node) a.0)
    → (¬ IsReserved w.plan a.0) → CanBeSkipped (world_of w) (Try k a)
try_skipped w k a within asked local = elim (slice_get_cases w.classes k.0).1 [
  | inl here ↦ (node_of here.0, ap (option_map node_of) here.2, asked here.0 here.2, local)
  | inr past ↦ absurd (omega (arith, within, past.0))
]

-- a request that was submitted and taken out
pub handed_in : (w k l : KeptWorld) (place : ℕ) (q : Request)
    → world_of k ≡ record (world_of w) { bank = with_request q (content_of w.bank) }
    → TakesOut place (RequestToBank q) w.mail l.mail → l ≡ record k { mail = l.mail }
    → IsTraced (world_of w) (Mail place) Submits (world_of l)
handed_in w k l place q is taken same = record {
  middle = world_of l;
  done = record {
    message = RequestToBank q;
    rest = l.mail;
    taken = taken;
    on = ap world_of same ∙ ap (λ (u : WorldContent). record u { mail = l.mail }) is;
  };
  after = refl;
}

-- what holds holds of any error
pub if_err : {A E : Type 0} (X : Type 0) (r : Result A E) → X → IfErr r (λ e. X)
if_err X (Ok a) x = tt
if_err X (Err e) x = x

-- what an answer sends leaves the world whole
pub sent_kept : (w : KeptWorld) (what : What) (outcome : Outcome) (later : List Message)
    → IsPlanned w.plan → SendsWhatFits w.plan what → IsSending w.plan what outcome w.mail later
    → IsKeptWorld w → IsKeptWorld (record w { mail = later })
sent_kept w what outcome later planned fits sending kept =
    mail_kept w later (put_fit w.plan what outcome w.mail later planned fits sending kept.mail) kept

-- there is no such class
pub no_class : (w : KeptWorld) (k : ℕ) → length w.classes ≤ k → (world_of w).classes k ≡ None
no_class w k past = ap (option_map node_of) (slice_get_past w.classes k past)

-- so a try there does nothing
pub no_try : (w : KeptWorld) (k : ClassId) (a : InterId) → length w.classes ≤ k.0
    → IsTraced (world_of w) (Try k a) Nothing (world_of w)
no_try w k a past = record { middle = world_of w; done = (no_class w k.0 past, refl); after = refl }

-- a step by its parts
pub counted_by : (saw : What → Type 0) (w : WorldContent) (event : Event) (what : What)
    (outcome : Outcome) (middle v : WorldContent) → saw what → IsTraced w event what middle
    → IsSending w.plan what outcome middle.mail v.mail → v ≡ record middle { mail = v.mail }
    → IsCounted saw w event outcome v
counted_by saw w event what outcome middle v seen traced sending others = record {
  what = what;
  seen = seen;
  step = record {
    middle = middle;
    acted = traced;
    sent = sending.sent;
    sends = sending.sends;
    put = sending.put;
    others = others;
  };
  effect = sending.effect;
}

-- an event that does nothing, or hands a request on, sends nothing
pub counted_quiet : (saw : What → Type 0) (w : WorldContent) (event : Event) (what : What)
    (outcome : Outcome) (v : WorldContent) → saw what → IsTraced w event what v
    → AreSent w.plan what [] → outcome ≡ record { effect = effect_of what; lost = 0 }
    → IsCounted saw w event outcome v
counted_quiet saw w event what outcome v seen traced sends is =
    counted_by saw w event what outcome v v seen traced
    (sends_nothing w.plan what outcome v.mail sends is) refl

-- a try that asks for nothing
pub counted_idly : (saw : What → Type 0) (w : KeptWorld) (k : ClassId) (a : InterId) (why : WhyNot)
    (old : KeptNode) (outcome : Outcome) → saw (Tries (tried_of why))
    → slice_get w.classes k.0 ≡ Some old → IsTried (node_of old) a.0 (tried_of why)
    → outcome ≡ record { effect = effect.Idle; lost = 0 }
    → IsCounted saw (world_of w) (Try k a) outcome (world_of w)
counted_idly saw w k a why_not.Foreign old outcome seen is tries idle =
    counted_quiet saw (world_of w) (Try k a) (Tries tried.Foreign) outcome (world_of w) seen
    (tried_idly w k a tried.Foreign old is tries refl refl) refl idle
counted_idly saw w k a (why_not.Pending b) old outcome seen is tries idle =
    counted_quiet saw (world_of w) (Try k a) (Tries (tried.Pending b)) outcome (world_of w) seen
    (tried_idly w k a (tried.Pending b) old is tries refl refl) refl idle
counted_idly saw w k a (why_not.Not verdict) old outcome seen is tries idle =
    counted_quiet saw (world_of w) (Try k a) (Tries (tried.Not verdict)) outcome (world_of w) seen
    (tried_idly w k a (tried.Not verdict) old is tries refl refl) refl idle

-- a message that was taken out and taken in
pub taken_counted : (saw : What → Type 0) (w u k : KeptWorld) (place : ℕ) (message : Message)
    (outcome : Outcome) (v : WorldContent) → world_of u ≡ world_of w
    → TakesOut place message u.mail k.mail → k ≡ record u { mail = k.mail }
    → IsTakenIn saw (world_of k) message outcome v
    → IsCounted saw (world_of w) (Mail place) outcome v
taken_counted saw w u k place message outcome v whole taken same in_ =
    let plan : k.plan ≡ u.plan = ap (λ (x : KeptWorld). x.plan) same in
    let counted = counted_by saw (world_of u) (Mail place) in_.what outcome in_.middle v in_.seen
    (delivered u k place message in_.what in_.middle taken same in_.on)
    (subst (λ (p : Planned). IsSending p in_.what outcome in_.middle.mail v.mail) plan
    in_.sending) in_.others in
    subst (λ (x : WorldContent). IsCounted saw x (Mail place) outcome v) whole counted
