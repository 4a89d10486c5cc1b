-- Each event of a world keeps an agreement with its trace that the small steps over views keep:
-- what its clause says of the node that it addresses is one of these.
use Rattle.std.specs.Prelude.{All}
use Rattle.bip_observe.specs.Verdicts.{IsTrueOf}
use Rattle.bip_ip.proofs.SufficeLemmas.{asked_suffices, local_suffices}
use Rattle.bip_ip.specs.Laws.{Suffice}
use Rattle.bip_model.specs.Parties.{AreExplained}
use Rattle.bip_model.specs.declared.reasons.Why.{Why}
use Rattle.std.proofs.Common.{◌≡◌, ℕ, ◌+◌, ◌≤◌, max, cond, List, [], ◌∷◌, ◌++◌, Option, Some}
use Rattle.std.proofs.Common.{refl, sym, ap, ◌∙◌, subst, arith, None, false, true}
use Rattle.std.specs.Prelude.{◌==◌, Any, IsSomeAnd}
use Rattle.bip_model.specs.Messages.{Shows, ShowsState}
use Rattle.bip_model.specs.Numbering.{put}
use Rattle.bip_model.specs.Parties.{AreWantsBy}
use Rattle.bip_model.specs.States.{State}
use Rattle.bip_model.specs.Steps.{after}
use Rattle.bip_model.specs.Wants.{raised}
use Rattle.bip_model.specs.declared.messages.Notify.{Notify}
use Rattle.bip_model.specs.declared.messages.Offer.{Offer}
use Rattle.bip_model.specs.declared.messages.Reply.{Reply}
use Rattle.bip_model.specs.declared.messages.Reply.TheVariants as reply
use Rattle.bip_model.specs.declared.messages.Request.{Request}
use Rattle.bip_model.specs.declared.numbering.ClassId.{ClassId}
use Rattle.bip_model.specs.declared.numbering.CompId.{CompId}
use Rattle.bip_model.specs.declared.numbering.InterId.{InterId}
use Rattle.bip_model.specs.declared.parts.System.{System}
use Rattle.bip_model.specs.declared.states.LocalState.{LocalState}
use Rattle.bip_model.specs.declared.wants.Want.{Want}
use Rattle.bip_partition.specs.Plans.{IsReserved, Planned}
use Rattle.bip_bank.specs.Decisions.{grant_of}
use Rattle.bip_bank.specs.Decisions.Decision.TheVariants as decision
use Rattle.bip_observe.specs.Offers.{Observed}
use Rattle.bip_observe.specs.Verdicts.{offers_of}
use Rattle.bip_observe.specs.declared.offers.Receipt.{Receipt}
use Rattle.bip_observe.specs.declared.offers.Receipt.TheVariants.{Held, Old, Stranger}
use Rattle.bip_replay.specs.Runs.{state_after, used_after}
use Rattle.bip_component.specs.Components.{CanMoveBy, IsNodeAfter, IsNotified, Node, led_by}
use Rattle.bip_component.specs.declared.components.Notified.{Notified}
use Rattle.bip_component.specs.declared.components.Notified.TheVariants as notified
use Rattle.bip_ip.specs.Asking.{told_by}
use Rattle.bip_ip.specs.Nodes.{IsLeftByRefusal}
use Rattle.bip_ip.specs.Nodes.{CanBeAsked, ClassNode, IsAnswered, IsLeftByReply, IsTried}
use Rattle.bip_ip.specs.Nodes.{after_offer, after_try, with_grant_known, without}
use Rattle.bip_ip.specs.declared.nodes.Answered.{Answered}
use Rattle.bip_ip.specs.declared.nodes.Answered.TheVariants as answered
use Rattle.bip_ip.specs.declared.nodes.OpenRecord.{OpenRecord}
use Rattle.bip_ip.specs.declared.nodes.Tried.{Tried}
use Rattle.bip_ip.specs.declared.nodes.Tried.TheVariants as tried
use Rattle.bip_ip.proofs.LawLemmas.{refusals_teach}
use Rattle.bip_bank.specs.Banks.{BankContent, IsActed, with_request}
use Rattle.bip_bank.specs.declared.banks.Acted.{Acted}
use Rattle.bip_bank.specs.declared.banks.Acted.TheVariants as acted
use Rattle.bip_core.specs.Events.{AreSent, IsMailHandedOn, IsDone, IsHandedOn, IsStep, are_notified}
use Rattle.bip_core.specs.Events.{class_named}
use Rattle.bip_core.specs.Events.{grant_in, trace_with}
use Rattle.bip_core.specs.Worlds.{WorldContent, with_class_node, with_component_node}
use Rattle.bip_core.specs.declared.events.Did.{Did}
use Rattle.bip_core.specs.declared.events.Event.{Event}
use Rattle.bip_core.specs.declared.events.Event.TheVariants.{Bank, Mail, Try}
use Rattle.bip_core.specs.declared.events.What.{What}
use Rattle.bip_core.specs.declared.events.What.TheVariants.{Acts, Hears, Learns, Moves, Nothing}
use Rattle.bip_core.specs.declared.events.What.TheVariants.{Submits, Tries}
use Rattle.bip_core.specs.declared.messages.Message.{Message}
use Rattle.bip_core.specs.declared.messages.Message.TheVariants.{NotifyComponent, OfferTo}
use Rattle.bip_core.specs.declared.messages.Message.TheVariants.{ReplyToClass, RequestToBank}
use Rattle.bip_core.specs.Agreement.{AreOfPlan}
use Rattle.bip_core.specs.Lists.{put_at}
use Rattle.bip_core.specs.Views.{View, lead, spent_of, view_of}
use Rattle.bip_core.proofs.ListLemmas.{Any-one}
use Rattle.bip_core.proofs.MailLemmas.{offers_to}
use Rattle.bip_core.proofs.PutLemmas.{put_here}
use Rattle.bip_core.proofs.StepLemmas.{IsTaught, KeepsSteps, asks_named, grants_named, led_by_it}
use Rattle.bip_core.proofs.StepLemmas.{loses, taken, unsent}
use Rattle.bip_core.proofs.TryLemmas.{WantedCount, Takes}
use Rattle.bip_core.proofs.UsedLemmas.{learning}
use Rattle.bip_core.proofs.ViewLemmas.{wanted_count, dropped_view, ended_view, held_view, known_is}
use Rattle.bip_core.proofs.ViewLemmas.{learned_view}
use Rattle.bip_core.proofs.ViewLemmas.{ended_node, moved_node}
use Rattle.bip_core.proofs.ViewLemmas.{led_is, moved_view, next_is, number_is, pending_is}
use Rattle.bip_core.proofs.ViewLemmas.{recorded_view, same_view, still_view, takes, told_view}

-- what an event leaves agrees, once what it sends is put last
record Keeps (A : (ℕ → ℕ) → State → View → Type 0) (base : ℕ) (v : WorldContent)
    (sent : List Message) : Type 0 where
  used : ℕ → ℕ
  state : State
  agrees : A used state (record (view_of base v) { mail = v.mail ++ sent })

-- a world in which the grant of an answer joined the trace, if there is one
abbrev traced : What → WorldContent → WorldContent
traced what v = record v { trace = trace_with v.trace (grant_in what) }

module _ {p : Planned} {base : ℕ} {A : (ℕ → ℕ) → State → View → Type 0}
    (keep : KeepsSteps p base A) where
  -- what agrees at some used numbers and state agrees at those of its trace
  pub at_its_trace : (u : ℕ → ℕ) (s : State) (w : View) → A u s w
      → A (used_after base w.trace) (state_after p.model w.trace) w
  at_its_trace u s w h =
      subst (λ (t : State). A (used_after base w.trace) t w) (sym (keep.end_is u s w h))
      (subst (λ (v : ℕ → ℕ). A v s w) (sym (keep.used_is u s w h)) h)

  -- by its view
  keeps : (u : ℕ → ℕ) (s : State) (v : WorldContent) (x : View) (sent : List Message)
      → view_of base v ≡ x → A u s (record x { mail = x.mail ++ sent }) → Keeps A base v sent
  keeps u s v x sent view h = record {
    used = u;
    state = s;
    agrees = subst (λ (y : View). A u s (record y { mail = y.mail ++ sent })) (sym view) h;
  }

  -- where nothing is sent
  quiet : (u : ℕ → ℕ) (s : State) (v : WorldContent) (x : View) → view_of base v ≡ x → A u s x
      → Keeps A base v []
  quiet u s v x view h = keeps u s v x [] view (unsent keep u s x h)

-- and of the same world, where the same is sent
keeps_same : (A : (ℕ → ℕ) → State → View → Type 0) (base : ℕ) {v x : WorldContent}
    {sent ms : List Message} → v ≡ x → sent ≡ ms → Keeps A base x ms → Keeps A base v sent
keeps_same A base {x = x} {sent = sent} world sends kept =
    subst (λ (y : WorldContent). Keeps A base y sent) (sym world)
    (subst (Keeps A base x) (sym sends) kept)

-- a world agrees, and its nodes are those of its plan
module _ {p : Planned} {base : ℕ} {A : (ℕ → ℕ) → State → View → Type 0}
    (keep : KeepsSteps p base A) {w : WorldContent} (plan : w.plan ≡ p) (nodes : AreOfPlan w)
    (u : ℕ → ℕ) (s : State) (h : A u s (view_of base w)) where
  abbrev before : View
  before = view_of base w

  abbrev Kept : WorldContent → List Message → Type 0
  Kept v sent = Keeps A base v sent

  -- it stays as it was, but for what the same view says
  same_kept : (v : WorldContent) (x : View) → view_of base v ≡ x → A u s x → Kept v []
  same_kept = quiet keep u s

  -- a message is taken out from between others
  module _ (front back : List Message) where
    abbrev left : WorldContent
    left = record w { mail = front ++ back }

    abbrev left_view : View
    left_view = record before { mail = front ++ back }

    -- an offer is handed on
    heard : (k : ClassId) (o : Offer) → w.mail ≡ front ++ OfferTo k o ∷ back → (receipt : Receipt)
        (node : ClassNode) → w.classes k.0 ≡ Some node
        → Kept (with_class_node k.0 (after_offer o receipt node) left) []
    heard k o whole Held node at =
        same_kept (with_class_node k.0 (after_offer o Held node) left)
        (record before { mail = front ++ back; held = put_at before.held k.0 o.comp.0 (Some o) })
        (held_view base left k.0 node at o) (keep.offered u s before h front back k o whole)
    heard k o whole Old node at =
        same_kept (with_class_node k.0 node left) left_view (same_view base left k.0 node at)
        (taken keep u s before h front back (OfferTo k o) whole)
    heard k o whole Stranger node at =
        same_kept (with_class_node k.0 node left) left_view (same_view base left k.0 node at)
        (taken keep u s before h front back (OfferTo k o) whole)

    -- a request is handed on
    opened : (q : Request) → w.mail ≡ front ++ RequestToBank q ∷ back
        → Kept (record left { bank = with_request q w.bank }) []
    opened q whole =
        same_kept (record left { bank = with_request q w.bank })
        (record before {
          mail = front ++ back;
          waiting = put before.waiting q.inter.0 (before.waiting q.inter.0 ++ q ∷ []);
        })
        refl (keep.asked u s before h front back q whole)

    -- a notification is handed on
    module _ (n : Notify) (whole : w.mail ≡ front ++ NotifyComponent n ∷ back) (node : Node)
        (at : w.components n.comp.0 ≡ Some node) where
      model : node.plan.model ≡ p.model
      model = ap (λ (x : Planned). x.model) ((nodes.components n.comp.0 node at).0 ∙ plan)

      own : node.comp ≡ n.comp.0
      own = (nodes.components n.comp.0 node at).1

      number : before.number n.comp.0 ≡ node.number
      number = number_is base w n.comp.0 node at

      abbrev led_state : State
      led_state = led_by_it p before n

      -- where it can move by it, it isn't spent, and has its number
      unspent : CanMoveBy node n → before.spent n.comp.0 ≡ false
      unspent can = ap spent_of at ∙ can.unspent

      own_number : CanMoveBy node n → n.number ≡ before.number n.comp.0
      own_number can = can.number ∙ sym number

      -- what shows where it is led shows the state then
      shows_led : (o : Offer) → o.comp.0 ≡ n.comp.0 → Shows node.plan.model o (led_by node n)
          → ShowsState p.model led_state o
      shows_led o comp shows =
          subst (λ (x : Option LocalState). IsSomeAnd x (Shows p.model o)) (sym there)
          (subst (λ (m : System). Shows m o (led_by node n)) model shows)
        where
          there : led_state o.comp.0 ≡ Some (led_by node n)
          there =
              ap led_state comp
              ∙ (put_here before.state n.comp.0 (lead p.model n (before.state n.comp.0))
              ∙ sym (led_is base w n.comp.0 node at p.model n model own refl))

      abbrev with_node : Node → WorldContent
      with_node later = with_component_node n.comp.0 later left

      moved : (did : Notified) (later : Node) → IsNotified node n did → IsNodeAfter node n did later
          → (sent : List Message) → AreSent p (Moves did) sent → Kept (with_node later) sent
      moved (notified.Moved o) later (can, room, offer) is sent sends =
          keeps_same A base (ap with_node is) sends.each
          (keeps keep u s (with_node (moved_node node n))
          (record left_view {
            state = led_state;
            number = put before.number n.comp.0 (before.number n.comp.0 + 1);
          })
          (offers_to sends.classes o)
          (moved_view base left n.comp.0 node at p.model n model own refl)
          (keep.moved_on u s before h front back n whole (unspent can) (own_number can)
          sends.classes o (omega (arith, number, room))
          (offer.comp ∙ own) (omega (arith, offer.number, number))
          (shows_led o (offer.comp ∙ own) offer.shows)))
      moved notified.Spent later (can, last) is sent none =
          keeps_same A base (ap with_node is) none
          (same_kept (with_node (ended_node node n))
          (record left_view { state = led_state; spent = put before.spent n.comp.0 true })
          (ended_view base left n.comp.0 node at p.model n model own refl)
          (keep.moved_last u s before h front back n whole (unspent can) (own_number can)
          (number ∙ last)))
      moved notified.Stale later stale is sent none =
          keeps_same A base (ap with_node is) none
          (same_kept (with_node node) left_view (still_view base left n.comp.0 node at)
          (taken keep u s before h front back (NotifyComponent n) whole))

    -- a reply is handed on, for which a record waits
    module _ (k : ClassId) (node : ClassNode) (at : w.classes k.0 ≡ Some node) (a : InterId)
        (i : ℕ) (e : OpenRecord) (waits : node.pending a.0 ≡ Some e)
        (named : e.request.request ≡ i) where
      there : before.pending k.0 a.0 ≡ Some e
      there =
          ap (λ (f : ℕ → Option OpenRecord). f a.0) (pending_is base w k.0 node at) ∙ waits

      -- it was granted
      heard_granted : (serial : ℕ)
          → w.mail ≡ front ++ ReplyToClass (reply.Granted k i a serial) ∷ back
          → Kept
          (with_class_node k.0 (with_grant_known e.request.wants (without a.0 node)) left)
          (are_notified e.notifies)
      heard_granted serial whole =
          keeps keep u s
          (with_class_node k.0 (with_grant_known e.request.wants (without a.0 node)) left)
          (record left_view {
            known = learning before.known k.0 e.request.wants;
            pending = put_at before.pending k.0 a.0 None;
          })
          (are_notified e.notifies)
          (told_view base left k.0 node at e.request.wants a.0)
          (keep.granted u s before h front back k i a serial whole e there named)

      -- it was refused
      heard_refused : (c : CompId) (used : ℕ) (later : ClassNode)
          → w.mail ≡ front ++ ReplyToClass (reply.Refused k i a c used) ∷ back
          → IsLeftByRefusal a.0 c.0 used node later
          → Kept (with_class_node k.0 later left) []
      heard_refused c used later whole leaves =
          same_kept (with_class_node k.0 later left)
          (record left_view {
            known = put before.known k.0 later.offers.known;
            pending = put_at before.pending k.0 a.0 None;
          })
          (dropped_view base left k.0 node at later a.0 leaves.held leaves.pending leaves.next)
          (keep.refused u s before h front back k i a c used whole e later.offers.known learns)
        where
          knows : (b : ℕ) → before.known k.0 b ≡ node.offers.known b
          knows b = ap (λ (f : ℕ → ℕ). f b) (known_is base w k.0 node at)

          wanted : Any (λ (v : Want). v.comp.0 ≡ c.0) e.request.wants
          wanted = keep.was_wanted u s before h front back k i a c used whole e there named

          teaches : (b : ℕ) → (node.offers.known b ≤ later.offers.known b)
              × (later.offers.known b ≤ max (node.offers.known b) (cond (b == c.0) used 0))
          teaches = refusals_teach node later a.0 c.0 used e leaves waits wanted

          told : used ≤ later.offers.known c.0
          told =
              let now = put_here node.offers.known c.0 (max (node.offers.known c.0) used) in
              let is = ap (λ (x : Observed). x.known c.0) (leaves.wanted e waits wanted) in
              omega (arith, now, is)

          learns : IsTaught before k i a c used e later.offers.known
          learns = record {
            is = there;
            named = named;
            more = λ b. omega (arith, (teaches b).0, knows b);
            taught = λ b. omega (arith, (teaches b).1, knows b);
            told = told;
          }

    -- any reply is handed on
    learned : (r : Reply) → w.mail ≡ front ++ ReplyToClass r ∷ back → (did : Answered)
        (node later : ClassNode) → w.classes (class_named r) ≡ Some node → IsAnswered node r did
        → IsLeftByReply r did node later → (sent : List Message) → AreSent p (Learns did) sent
        → Kept (with_class_node (class_named r) later left) sent
    learned (reply.Granted k i a serial) whole (answered.Told ns) node later at did is sent sends =
        let (e, awaits, tells) = did in
        keeps_same A base (ap (λ (x : ClassNode). with_class_node k.0 x left) (is e awaits))
        (sends ∙ ap are_notified tells)
        (heard_granted k node at a i e awaits.pending awaits.to.1 serial whole)
    learned (reply.Refused k i a c used) whole answered.Dropped node later at did leaves sent none =
        let (e, awaits) = did in
        keeps_same A base refl none
        (heard_refused k node at a i e awaits.pending awaits.to.1 c used later whole leaves)
    learned r whole answered.Stale node later at stale is sent none =
        keeps_same A base (ap (λ (x : ClassNode). with_class_node (class_named r) x left) is) none
        (same_kept (with_class_node (class_named r) node left) left_view
        (same_view base left (class_named r) node at)
        (taken keep u s before h front back (ReplyToClass r) whole))
    learned r whole did node later at none is sent sends = absurd none

    -- any message is handed on
    handed : (m : Message) → w.mail ≡ front ++ m ∷ back → (what : What) (v : WorldContent)
        → IsHandedOn left m what v → (sent : List Message) → AreSent p what sent
        → Kept (traced what v) sent
    handed (OfferTo k o) whole (Hears receipt) v (node, at, hears, is) sent none =
        keeps_same A base is none (heard k o whole receipt node at)
    handed (RequestToBank q) whole Submits v is sent none =
        keeps_same A base is none (opened q whole)
    handed (ReplyToClass r) whole (Learns did) v on sent sends =
        let (node, later, at, answers, leaves, is) = on in
        keeps_same A base is refl (learned r whole did node later at answers leaves sent sends)
    handed (NotifyComponent n) whole (Moves did) v on sent sends =
        let (node, later, at, answers, leaves, is) = on in
        keeps_same A base is refl (moved n whole node at did later answers leaves sent sends)
    handed m whole what v none sent sends = absurd none

  -- a class tries an interaction
  module _ (k : ClassId) (a : InterId) (node : ClassNode) (at : w.classes k.0 ≡ Some node) where
    its_plan : node.offers.plan ≡ p
    its_plan = (nodes.classes k.0 node at).0 ∙ plan

    takes_up : (reasons : List Why) (wants : List Want) → CanBeAsked node a.0
        → Suffice node a.0 reasons wants
        → Takes p before k.0 a.0 (offers_of node.offers) wants
    takes_up reasons wants can enough =
        subst (λ (x : Planned). Takes x before k.0 a.0 (offers_of node.offers) wants) its_plan
        (takes base w k.0 node at a.0 reasons wants (nodes.classes k.0 node at).1 can enough)

    counts : (reasons : List Why) (wants : List Want) → Suffice node a.0 reasons wants
        → WantedCount before k.0 (offers_of node.offers) wants
    counts = wanted_count base w k.0 node at a.0

    wanted_by : {reasons : List Why} {wants : List Want}
        → AreWantsBy node.offers.plan.model (offers_of node.offers) a.0 reasons wants
        → AreWantsBy p.model (offers_of node.offers) a.0 reasons wants
    wanted_by {reasons} {wants} by =
        subst (λ (x : Planned). AreWantsBy x.model (offers_of node.offers) a.0 reasons wants)
        its_plan by

    so_by : (reasons : List Why)
        → All (λ (y : Why). IsTrueOf node.offers.plan.model (offers_of node.offers) y.inter.0
        y.cause) reasons
        → All (λ (y : Why). IsTrueOf p.model (offers_of node.offers) y.inter.0 y.cause) reasons
    so_by reasons so =
        subst
        (λ (x : Planned).
        All (λ (y : Why). IsTrueOf x.model (offers_of node.offers) y.inter.0 y.cause) reasons)
        its_plan so

    explained_by : (reasons : List Why) (wants : List Want)
        → AreExplained node.offers.plan.model a.0 wants reasons
        → AreExplained p.model a.0 wants reasons
    explained_by reasons wants is =
        subst (λ (x : Planned). AreExplained x.model a.0 wants reasons) its_plan is

    told_is : told_by node.offers.plan.model (offers_of node.offers) a.0
        ≡ told_by p.model (offers_of node.offers) a.0
    told_is = ap (λ (x : Planned). told_by x.model (offers_of node.offers) a.0) its_plan

    abbrev tried_by : Tried → WorldContent
    tried_by did = traced (Tries did) (with_class_node k.0 (after_try a.0 did node) w)

    tries : (did : Tried) → IsTried node a.0 did → (sent : List Message)
        → AreSent p (Tries did) sent → Kept (tried_by did) sent
    tries (tried.Local g notifies) (can, local, names, by, tells) sent sends =
        let enough = local_suffices node a.0 g notifies (can, local, names, by, tells) in
        keeps_same A base refl (sends ∙ ap are_notified (tells ∙ told_is))
        (keeps keep (raised u g.wants) (after p.model s g.inter.0)
        (tried_by (tried.Local g notifies))
        (record before {
          trace = w.trace ++ g ∷ [];
          known = learning before.known k.0 g.wants;
        })
        (are_notified (told_by p.model (offers_of node.offers) a.0))
        (ap (λ (x : View). record x { trace = w.trace ++ g ∷ [] })
        (learned_view base w k.0 node at g.wants))
        (grants_named keep u s before h k.0 a.0 (offers_of node.offers) g names
        (takes_up [] g.wants can enough) (counts [] g.wants enough) (wanted_by by)
        (λ is. local (subst (λ (x : Planned). IsReserved x a.0) (sym its_plan) is))))
    tries (tried.Sent q) (can, reserved, room, next) sent sends =
        let enough = asked_suffices node a.0 q (can, reserved, room, next) in
        keeps_same A base refl sends
        (keeps keep u s (tried_by (tried.Sent q))
        (recording (told_by p.model (offers_of node.offers) a.0)) (RequestToBank q ∷ [])
        (recorded_view base w k.0 node at a.0 q ∙ ap recording told_is)
        (asks_named keep u s before h k.0 a.0 (offers_of node.offers) q
        (next.class ∙ (nodes.classes k.0 node at).1) next.inter
        (takes_up q.reasons q.wants can enough) (counts q.reasons q.wants enough)
        (wanted_by next.wants) (so_by q.reasons enough.so)
        (explained_by q.reasons q.wants enough.explained)
        (subst (λ (x : Planned). IsReserved x a.0) its_plan reserved)
        (next.number ∙ sym (next_is base w k.0 node at))))
      where
        entry : List Notify → OpenRecord
        entry notifies = record { request = q; notifies = notifies }

        recording : List Notify → View
        recording notifies = record before {
          pending = put_at before.pending k.0 a.0 (Some (entry notifies));
          next = put before.next k.0 (before.next k.0 + 1);
        }
    tries did does sent none =
        keeps_same A base refl none
        (same_kept (with_class_node k.0 node w) before (same_view base w k.0 node at) h)

  -- the bank does a step
  abbrev acted_by : Acted → BankContent → WorldContent
  acted_by did later = traced (Acts did) (record w { bank = later })

  acts : (did : Acted) (later : BankContent) → IsActed did w.bank later → (sent : List Message)
      → AreSent p (Acts did) sent → Kept (acted_by did later) sent
  acts (acted.Answered q (decision.Granted serial)) later decided sent sends =
      let did = acted.Answered q (decision.Granted serial) in
      keeps_same A base refl sends
      (keeps keep (raised u q.wants) (after p.model s q.inter.0) (acted_by did later)
      (record before {
        trace = w.trace ++ grant_of q ∷ [];
        used = raised before.used q.wants;
        grants = before.grants ++ grant_of q ∷ [];
        waiting = put before.waiting q.inter.0 decided.rest;
      })
      (ReplyToClass (reply.Granted q.class q.request q.inter serial) ∷ [])
      (ap (λ (b : BankContent). view_of base (acted_by did b)) decided.after)
      (keep.serves u s before h q decided.rest decided.oldest decided.decision serial))
  acts (acted.Answered q (decision.Refused c used)) later decided sent sends =
      let did = acted.Answered q (decision.Refused c used) in
      let used_up : Want → Type 0 = λ v. (v.comp.0 ≡ c.0) × (v.number ≤ w.bank.used c.0) in
      let (v, among, so) = Any-one used_up q.wants decided.decision.0.here in
      keeps_same A base refl sends
      (keeps keep u s (acted_by did later)
      (record before { waiting = put before.waiting q.inter.0 decided.rest })
      (ReplyToClass (reply.Refused q.class q.request q.inter c used) ∷ [])
      (ap (λ (b : BankContent). view_of base (acted_by did b)) decided.after)
      (keep.refuses u s before h q decided.rest decided.oldest c used v among so
      decided.decision.1))
  acts did later is sent none =
      keeps_same A base refl none
      (same_kept (record w { bank = later }) before
      (ap (λ (b : BankContent). view_of base (record w { bank = b })) is) h)

  -- a message is delivered
  delivers : (place : ℕ) (what : What) (v : WorldContent) → IsMailHandedOn place w what v
      → (sent : List Message) → AreSent p what sent
      → Kept (traced what v) sent
  delivers place what v d sent sends =
      let on : List Message → Type 0 = λ ms. IsHandedOn (record w { mail = ms }) d.message what v in
      handed d.taken.front d.taken.back d.message d.taken.whole what v
      (subst on d.taken.others d.on) sent sends

  -- nothing happens
  still : {v : WorldContent} → v ≡ w → {sent : List Message} → sent ≡ [] → Kept v sent
  still same none = keeps_same A base same none (same_kept w before refl h)

  -- any event does what it does
  done : (event : Event) (what : What) (v : WorldContent) → IsDone w event what v
      → (sent : List Message) → AreSent p what sent
      → Kept (traced what v) sent
  done (Mail place) Nothing v (past, same) sent none = still same none
  done (Mail place) what v delivered sent sends = delivers place what v delivered sent sends
  done (Try k a) (Tries did) v (node, at, is, same) sent sends =
      keeps_same A base (ap (traced (Tries did)) same) refl (tries k a node at did is sent sends)
  done (Try k a) Nothing v (absent, same) sent none = still same none
  done (Bank step) (Acts did) v (later, does, is, same) sent sends =
      keeps_same A base (ap (traced (Acts did)) same) refl (acts did later is sent sends)
  done event what v none sent sends = absurd none

  -- one event, and then what it sends is put last but for what is lost
  module _ (event : Event) (did : Did) (v : WorldContent) (step : IsStep w event did v) where
    kept : Kept step.middle step.sent
    kept =
        keeps_same A base step.acted.after refl
        (done event did.what step.acted.middle step.acted.done step.sent
        (subst (λ (x : Planned). AreSent x did.what step.sent) plan step.sends))

    abbrev kept_view : List Message → View
    kept_view mail = record (view_of base step.middle) { mail = mail }

    put_last : A kept.used kept.state (kept_view v.mail)
    put_last =
        subst (λ (ms : List Message). A kept.used kept.state (kept_view ms)) (sym step.put.last)
        (loses keep kept.used kept.state (view_of base step.middle) step.sent step.put.put
        step.put.kept kept.agrees)

    -- so a step keeps the agreement
    pub step_keeps : A (used_after base v.trace) (state_after p.model v.trace) (view_of base v)
    step_keeps =
        at_its_trace keep kept.used kept.state (view_of base v)
        (subst (λ (x : WorldContent). A kept.used kept.state (view_of base x))
        (sym step.others) put_last)
