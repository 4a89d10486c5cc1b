-- From a world to its view: what another node of a class or of a component changes in it. Each
-- change of a node that some event leaves is one change of the view.
use Rattle.bip_ip.specs.Laws.{Suffice}
use Rattle.bip_model.specs.declared.reasons.Why.{Why}
use Rattle.std.proofs.Common.{◌≡◌, ℕ, ◌+◌, ◌<◌, List, Bool, true, Option, Some, None, refl, sym, ap}
use Rattle.std.proofs.Common.{◌∙◌, subst, inl}
use Rattle.std.specs.Prelude.{IsSome}
use Rattle.bip_model.specs.Numbering.{put}
use Rattle.bip_model.specs.States.{State, with_values}
use Rattle.bip_model.specs.Steps.{led}
use Rattle.bip_model.specs.Wants.{raised}
use Rattle.bip_model.specs.declared.messages.Notify.{Notify}
use Rattle.bip_model.specs.declared.messages.Offer.{Offer}
use Rattle.bip_model.specs.declared.messages.Request.{Request}
use Rattle.bip_model.specs.declared.parts.System.{System}
use Rattle.bip_model.specs.declared.wants.Want.{Want}
use Rattle.bip_observe.specs.Verdicts.{offers_of}
use Rattle.bip_observe.proofs.OfferLemmas.{counted_is_held}
use Rattle.bip_component.specs.Components.{Node, led_by}
use Rattle.bip_ip.specs.Nodes.{CanBeAsked, ClassNode, told_of, with_grant_known, with_record}
use Rattle.bip_ip.specs.Nodes.{without}
use Rattle.bip_ip.specs.declared.nodes.OpenRecord.{OpenRecord}
use Rattle.bip_observe.specs.Offers.{with_held}
use Rattle.bip_core.specs.Worlds.{WorldContent, with_class_node, with_component_node}
use Rattle.bip_core.specs.Lists.{put_at}
use Rattle.bip_core.specs.Views.{View, held_of, known_of, lead, next_of, number_at, pending_of}
use Rattle.bip_core.specs.Views.{local_at, spent_of, view_of}
use Rattle.bip_core.proofs.PutLemmas.{put_back, read_put}
use Rattle.bip_core.proofs.TryLemmas.{WantedCount, Takes}
use Rattle.bip_core.proofs.UsedLemmas.{learning}

-- a view with other nodes of classes
abbrev of_classes : View → (ℕ → ℕ → ℕ) → (ℕ → ℕ → Option Offer) → (ℕ → ℕ → Option OpenRecord)
    → (ℕ → ℕ) → View
of_classes w known held pending next =
    record w { known = known; held = held; pending = pending; next = next }

same_classes : (w : View) {known known_too : ℕ → ℕ → ℕ} {held held_too : ℕ → ℕ → Option Offer}
    {pending pending_too : ℕ → ℕ → Option OpenRecord} {next next_too : ℕ → ℕ}
    → known ≡ known_too → held ≡ held_too → pending ≡ pending_too → next ≡ next_too
    → of_classes w known held pending next ≡ of_classes w known_too held_too pending_too next_too
same_classes w {known} {known_too} {held} {held_too} {pending} {pending_too} {next} a b c d =
    ap (λ x. of_classes w x held pending next) a
    ∙ (ap (λ x. of_classes w known_too x pending next) b
    ∙ (ap (λ x. of_classes w known_too held_too x next) c
    ∙ ap (λ x. of_classes w known_too held_too pending_too x) d))

-- a class has a node
module _ (base : ℕ) (w : WorldContent) (k : ℕ) (node : ClassNode)
    (at : w.classes k ≡ Some node) where
  abbrev old : View
  old = view_of base w

  -- what is read of it
  pub known_is : old.known k ≡ node.offers.known
  known_is = ap (known_of base) at

  pub pending_is : old.pending k ≡ node.pending
  pending_is = ap pending_of at

  pub next_is : old.next k ≡ node.next
  next_is = ap next_of at

  held_is : old.held k ≡ node.offers.held
  held_is = ap held_of at

  -- the view with another one, by what that one puts in the old one's place
  put_view : (later : ClassNode) {known : ℕ → ℕ → ℕ} {held : ℕ → ℕ → Option Offer}
      {pending : ℕ → ℕ → Option OpenRecord} {next : ℕ → ℕ}
      → put old.known k later.offers.known ≡ known → put old.held k later.offers.held ≡ held
      → put old.pending k later.pending ≡ pending → put old.next k later.next ≡ next
      → view_of base (with_class_node k later w) ≡ of_classes old known held pending next
  put_view later known held pending next =
      same_classes old
      (read_put (known_of base) w.classes k (Some later))
      (read_put held_of w.classes k (Some later))
      (read_put pending_of w.classes k (Some later))
      (read_put next_of w.classes k (Some later))
      ∙ same_classes old known held pending next

  same_known : put old.known k node.offers.known ≡ old.known
  same_known = put_back old.known k node.offers.known known_is

  same_held : put old.held k node.offers.held ≡ old.held
  same_held = put_back old.held k node.offers.held held_is

  same_pending : put old.pending k node.pending ≡ old.pending
  same_pending = put_back old.pending k node.pending pending_is

  same_next : put old.next k node.next ≡ old.next
  same_next = put_back old.next k node.next next_is

  -- the same node
  pub same_view : view_of base (with_class_node k node w) ≡ old
  same_view = put_view node same_known same_held same_pending same_next

  -- an offer is held
  pub held_view : (o : Offer)
      → view_of base (with_class_node k (record node { offers = with_held o node.offers }) w)
      ≡ record old { held = put_at old.held k o.comp.0 (Some o) }
  held_view o =
      put_view (record node { offers = with_held o node.offers }) same_known
      (ap (λ (f : ℕ → Option Offer). put old.held k (put f o.comp.0 (Some o))) (sym held_is))
      same_pending same_next

  -- a record goes, and other numbers are known
  pub dropped_view : (later : ClassNode) (a : ℕ) → later.offers.held ≡ node.offers.held
      → later.pending ≡ put node.pending a None → later.next ≡ node.next
      → view_of base (with_class_node k later w)
      ≡ record old {
        known = put old.known k later.offers.known;
        pending = put_at old.pending k a None;
      }
  dropped_view later a held pending next =
      put_view later refl
      (ap (put old.held k) held ∙ same_held)
      (ap (put old.pending k) pending
      ∙ ap (λ (f : ℕ → Option OpenRecord). put old.pending k (put f a None)) (sym pending_is))
      (ap (put old.next k) next ∙ same_next)

  -- what a grant moved is known
  learned_known : (wants : List Want) → put old.known k (with_grant_known wants node).offers.known
      ≡ learning old.known k wants
  learned_known wants = ap (λ (f : ℕ → ℕ). put old.known k (raised f wants)) (sym known_is)

  -- so the class learns it
  pub learned_view : (wants : List Want)
      → view_of base (with_class_node k (with_grant_known wants node) w)
      ≡ record old { known = learning old.known k wants }
  learned_view wants =
      put_view (with_grant_known wants node) (learned_known wants) same_held same_pending same_next

  -- and a record goes
  pub told_view : (wants : List Want) (a : ℕ)
      → view_of base (with_class_node k (with_grant_known wants (without a node)) w)
      ≡ record old {
        known = learning old.known k wants;
        pending = put_at old.pending k a None;
      }
  told_view wants a =
      dropped_view (with_grant_known wants (without a node)) a refl refl refl
      ∙ ap (λ (f : ℕ → ℕ → ℕ). record old { known = f; pending = put_at old.pending k a None })
      (learned_known wants)

  -- a record comes
  pub recorded_view : (a : ℕ) (q : Request)
      → view_of base (with_class_node k (with_record a q node) w)
      ≡ record old {
        pending = put_at old.pending k a (Some (record { request = q; notifies = told_of node a }));
        next = put old.next k (old.next k + 1);
      }
  recorded_view a q =
      let entry : OpenRecord = record { request = q; notifies = told_of node a } in
      put_view (with_record a q node) same_known same_held
      (ap (λ (f : ℕ → Option OpenRecord). put old.pending k (put f a (Some entry)))
      (sym pending_is))
      (ap (λ (n : ℕ). put old.next k (n + 1)) (sym next_is))

  -- an interaction that it can ask for is one that it takes up
  pub takes : (a : ℕ) (reasons : List Why) (wants : List Want) → node.offers.class ≡ k
      → CanBeAsked node a → Suffice node a reasons wants
      → Takes node.offers.plan old k a (offers_of node.offers) wants
  takes a reasons wants class can enough = record {
    inter = can.own.declared;
    home = can.own.class ∙ class;
    free =
        ap (λ (f : ℕ → Option OpenRecord). f a) pending_is
        ∙ none (node.pending a) (λ some. can.free a (some, inl refl));
    ready = enough.ready;
    held = λ c has.
        ap (λ (f : ℕ → Option Offer). f c) held_is
        ∙ ((counted_is_held node.offers c).0 (enough.counted c has)).0;
  }
    where
      none : {X : Type 0} (x : Option X) → ¬ IsSome x → x ≡ None
      none None absent = refl
      none (Some y) absent = absurd (absent refl)

  -- by offers that count
  pub wanted_count : (a : ℕ) (reasons : List Why) (wants : List Want)
      → Suffice node a reasons wants → WantedCount old k (offers_of node.offers) wants
  wanted_count a reasons wants enough c has =
      let number = (offers_of node.offers c).number in
      subst (λ (f : ℕ → ℕ). f c < number) (sym known_is)
      ((counted_is_held node.offers c).0 (enough.counted c has)).1

-- a view with other nodes of components
abbrev of_components : View → State → (ℕ → ℕ) → (ℕ → Bool) → View
of_components w state number spent = record w { state = state; number = number; spent = spent }

same_components : (w : View) {state state_too : State} {number number_too : ℕ → ℕ}
    {spent spent_too : ℕ → Bool} → state ≡ state_too → number ≡ number_too → spent ≡ spent_too
    → of_components w state number spent ≡ of_components w state_too number_too spent_too
same_components w {state} {state_too} {number} {number_too} {spent} a b c =
    ap (λ x. of_components w x number spent) a
    ∙ (ap (λ x. of_components w state_too x spent) b
    ∙ ap (λ x. of_components w state_too number_too x) c)

-- a component's node that was led by a notification, to the next number or with the last one
abbrev pub moved_node : Node → Notify → Node
moved_node node n = record node { number = node.number + 1; local = led_by node n }

abbrev pub ended_node : Node → Notify → Node
ended_node node n = record node { local = led_by node n; spent = true }

-- a component has a node
module _ (base : ℕ) (w : WorldContent) (c : ℕ) (node : Node)
    (at : w.components c ≡ Some node) where
  abbrev before : View
  before = view_of base w

  -- what is read of it
  pub number_is : before.number c ≡ node.number
  number_is = ap (number_at base) at

  state_is : before.state c ≡ Some node.local
  state_is = ap local_at at

  spent_is : before.spent c ≡ node.spent
  spent_is = ap spent_of at

  put_component : (later : Node) {state : State} {number : ℕ → ℕ} {spent : ℕ → Bool}
      → put before.state c (Some later.local) ≡ state → put before.number c later.number ≡ number
      → put before.spent c later.spent ≡ spent
      → view_of base (with_component_node c later w) ≡ of_components before state number spent
  put_component later state number spent =
      same_components before
      (read_put local_at w.components c (Some later))
      (read_put (number_at base) w.components c (Some later))
      (read_put spent_of w.components c (Some later))
      ∙ same_components before state number spent

  same_number : put before.number c node.number ≡ before.number
  same_number = put_back before.number c node.number number_is

  same_spent : put before.spent c node.spent ≡ before.spent
  same_spent = put_back before.spent c node.spent spent_is

  -- the same node
  pub still_view : view_of base (with_component_node c node w) ≡ before
  still_view =
      put_component node (put_back before.state c (Some node.local) state_is) same_number same_spent

  -- a notification leads it
  module _ (m : System) (n : Notify) (model : node.plan.model ≡ m) (own : node.comp ≡ c)
      (named : n.comp.0 ≡ c) where
    -- to where the notification leads it
    pub led_is : Some (led_by node n) ≡ lead m n (before.state c)
    led_is =
        let local = with_values n.values node.local in
        let by_model = ap (λ (x : System). led x node.comp n.port local) model in
        let by_comp = ap (λ (d : ℕ). led m d n.port local) (own ∙ sym named) in
        ap Some (by_model ∙ by_comp) ∙ ap (lead m n) (sym state_is)

    -- to the next number
    pub moved_view :
        view_of base (with_component_node c (moved_node node n) w)
        ≡ record before {
          state = put before.state c (lead m n (before.state c));
          number = put before.number c (before.number c + 1);
        }
    moved_view =
        put_component (moved_node node n) (ap (put before.state c) led_is)
        (ap (λ (d : ℕ). put before.number c (d + 1)) (sym number_is)) same_spent

    -- with the last one
    pub ended_view :
        view_of base (with_component_node c (ended_node node n) w)
        ≡ record before {
          state = put before.state c (lead m n (before.state c));
          spent = put before.spent c true;
        }
    ended_view =
        put_component (ended_node node n) (ap (put before.state c) led_is) same_number refl
