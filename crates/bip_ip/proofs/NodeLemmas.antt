-- What is kept of a node, as the node, and what its calls leave.
use Rattle.std.proofs.Common.{◌≡◌, ◌⊎◌, ℕ, ◌+◌, ◌<◌, Bool, true, false, eqb, ◌||◌, cond, max, List}
use Rattle.std.proofs.Common.{length, take, set, get_or, Some, None, Option, inl, inr, refl, sym}
use Rattle.std.proofs.Common.{ap, ◌∙◌, subst, arith}
use Rattle.std.specs.Prelude.{All, IfSome, OnSome, is_some}
use Rattle.std.specs.List.Sorted.{IsStrictlyIncreasing}
use Rattle.std.proofs.Math.Path.{fun_ext}
use Rattle.std.proofs.lemmas.Bool.{eq-eqb}
use Rattle.std.proofs.lemmas.Bool.Decides.{eqb_tells}
use Rattle.std.proofs.lemmas.Bool.{cases_lt}
use Rattle.std.proofs.lemmas.List.{get_or_default, get_or_past, length-set}
use Rattle.std.proofs.lemmas.List.Elements.{All-contains}
use Rattle.std.proofs.lemmas.Nat.Bits.{bit_at-zero}
use Rattle.bip_model.specs.Numbering.{put}
use Rattle.bip_model.specs.Parties.{AreParties}
use Rattle.bip_model.specs.Partitions.{class_in}
use Rattle.bip_model.specs.Sets.{has}
use Rattle.bip_model.specs.Wants.{components_of, is_moved, raised}
use Rattle.bip_model.specs.declared.messages.Notify.{Notify}
use Rattle.bip_model.specs.declared.messages.Offer.{Offer}
use Rattle.bip_model.specs.declared.messages.Request.{Request}
use Rattle.bip_model.specs.declared.wants.Want.{Want}
use Rattle.bip_model.proofs.PartyLemmas.{moved_or_seen}
use Rattle.bip_model.proofs.PutLemmas.{read-set}
use Rattle.bip_model.proofs.RaiseLemmas.{moves_it, raised_more}
use Rattle.bip_partition.specs.Laws.{IsPlanned}
use Rattle.bip_partition.specs.Plans.{ClassTouches, IsFit, Planned}
use Rattle.bip_partition.proofs.LawLemmas.{class_touches}
use Rattle.bip_observe.specs.Offers.{IsLeftBy, KeptOffers, Observed, nothing_held, observed}
use Rattle.bip_observe.specs.Offers.{with_known}
use Rattle.bip_observe.specs.declared.offers.Receipt.{Receipt}
use Rattle.bip_observe.specs.declared.offers.Receipt.TheVariants.{Held, Old, Stranger}
use Rattle.bip_observe.proofs.KeptLemmas.{length_nothings, nothings, read_nothing}
use Rattle.bip_ip.specs.Nodes.{AreAsked, ClassNode, IsItsRecord, IsKeptNode, IsLeftByRefusal, IsOwn}
use Rattle.bip_ip.specs.Nodes.{KeptNode, after_offer, first_node, node_of, told_of}
use Rattle.bip_ip.specs.Nodes.{with_grant_known, with_learned, with_record, without}
use Rattle.bip_ip.specs.declared.nodes.OpenRecord.{OpenRecord}

-- what the parties of an interaction are its class touches
pub parties_touched : (p : Planned) (a : ℕ) (wants : List Want) → IsPlanned p
    → AreParties p.model a wants → All (λ (w : Want). ClassTouches p
    (class_in p.classes a) w.comp.0) wants
parties_touched p a wants planned parties k d within =
    let w = get_or wants k d in
    let there = get_or_default wants k w d within in
    elim (moved_or_seen wants w (k, within, there)) [
      | inl moved ↦ class_touches p planned a w.comp.0
          (inl ((parties.moved w.comp.0).0 (k, w, within, there, (refl, moved))))
      | inr seen ↦ class_touches p planned a w.comp.0 (inr (parties.seen w.comp.0 seen))
    ]

pub class_touched : (p : Planned) (a class : ℕ) (wants : List Want) → IsPlanned p
    → AreParties p.model a wants → class_in p.classes a ≡ class
    → All (λ (w : Want). ClassTouches p class w.comp.0) wants
class_touched p a class wants planned parties same =
    subst (λ (k : ℕ). All (λ (w : Want). ClassTouches p k w.comp.0) wants) same
    (parties_touched p a wants planned parties)

-- a set with one more number, number by number
pub put_on : (f : ℕ → Bool) (k b : ℕ) → (eqb b k || f b) ≡ put f k true b
put_on f k b = elim (eqb_tells b k) [
  | inl same ↦ rw same.0 refl
  | inr other ↦ rw other.0 refl
]

-- a component's number, raised by a want that moves it
moved_step : (f : ℕ → ℕ) (w : Want) (k : ℕ) → is_moved w.role ≡ true
    → put f w.comp.0 (max (f w.comp.0) w.number) k ≡ cond (moves_it w k) (max (f k) w.number) (f k)
moved_step f w k role = elim (eqb_tells k w.comp.0) [
  | inl same ↦ rw (same.0, eq-eqb w.comp.0 k (sym same.1), role, ap f same.1) refl
  | inr apart ↦ elim (eqb_tells w.comp.0 k) [
    | inl other ↦ absurd (apart.1 (sym other.1))
    | inr off ↦ rw (apart.0, off.0) refl
  ]
]

-- and by one that doesn't move it
seen_step : (n k : ℕ) (w : Want) → is_moved w.role ≡ false
    → n ≡ cond (moves_it w k) (max n w.number) n
seen_step n k w role = elim (eqb_tells w.comp.0 k) [
  | inl same ↦ rw (same.0, role) refl
  | inr apart ↦ rw apart.0 refl
]

-- one more want is learned
pub learned_moved : (u v : Observed) (wants : List Want) (i : ℕ) (d : Want)
    → IsStrictlyIncreasing (components_of wants) → i < length wants
    → u ≡ with_learned (take i wants) v → is_moved (get_or wants i d).role ≡ true
    → with_known (get_or wants i d).comp.0 (get_or wants i d).number u ≡ with_learned
    (take (i + 1) wants) v
learned_moved u v wants i d rising within before moved =
    let w = get_or wants i d in
    let f = raised v.known (take i wants) in
    let more : put f w.comp.0 (max (f w.comp.0) w.number) ≡ raised v.known (take (i + 1) wants) =
    fun_ext (λ k. moved_step f w k moved ∙ raised_more (v.known k)
    (f k) wants i d k rising within refl) in
    ap (with_known w.comp.0 w.number) before ∙ ap (λ (known : ℕ → ℕ). record v { known = known })
    more

pub learned_seen : (u v : Observed) (wants : List Want) (i : ℕ) (d : Want)
    → IsStrictlyIncreasing (components_of wants) → i < length wants
    → u ≡ with_learned (take i wants) v → is_moved (get_or wants i d).role ≡ false
    → u ≡ with_learned (take (i + 1) wants) v
learned_seen u v wants i d rising within before seen =
    let f = raised v.known (take i wants) in
    let more : f ≡ raised v.known (take (i + 1) wants) =
    fun_ext (λ k. seen_step (f k) k (get_or wants i d) seen
    ∙ raised_more (v.known k) (f k) wants i d k rising within refl) in
    before ∙ ap (λ (known : ℕ → ℕ). record v { known = known }) more

-- a node by its parts
abbrev node_by : Observed → (ℕ → Option OpenRecord) → ℕ → ClassNode
node_by v pending next = record { offers = v; pending = pending; next = next }

pub same_node : (v w : Observed) (f g : ℕ → Option OpenRecord) (n : ℕ) → v ≡ w → f ≡ g
    → node_by v f n ≡ node_by w g n
same_node v w f g n offers pending = ap (λ (u : Observed). node_by u f n) offers
    ∙ ap (λ (h : ℕ → Option OpenRecord). node_by w h n) pending

-- what is kept at first
abbrev pub first_kept_node : KeptOffers → ℕ → ℕ → KeptNode
first_kept_node o n first = record { offers = o; pending = nothings OpenRecord n; next = first }

pub first_is_kept : (o : KeptOffers) (n first : ℕ) → n ≡ length o.plan.model.interactions
    → IsKeptNode (first_kept_node o n first)
first_is_kept o n first each = record {
  each = length_nothings OpenRecord n ∙ each;
  records = λ a e is.
      let none = sym (read_nothing OpenRecord n a) ∙ is in
      absurd (cc);
}

pub first_is_node : (o : KeptOffers) (n first : ℕ) (p : Planned) (class base : ℕ)
    → observed o ≡ nothing_held p class base → node_of (first_kept_node o n first)
    ≡ first_node p class base first
first_is_node o n first p class base is = same_node (observed o) (nothing_held p class base)
    (λ a. get_or (nothings OpenRecord n) a None) (λ a. None) first is
    (fun_ext (read_nothing OpenRecord n))

-- offers are of the plan and the class of which they were
pub left_plan : (offer : Offer) (receipt : Receipt) (o later : KeptOffers)
    → IsLeftBy offer receipt o later → (later.plan ≡ o.plan) × (later.class ≡ o.class)
left_plan offer Held o later left = (
  ap (λ (v : Observed). v.plan) left,
  ap (λ (v : Observed). v.class) left,
)
left_plan offer Old o later left = (
  ap (λ (k : KeptOffers). k.plan) left,
  ap (λ (k : KeptOffers). k.class) left,
)
left_plan offer Stranger o later left = (
  ap (λ (k : KeptOffers). k.plan) left,
  ap (λ (k : KeptOffers). k.class) left,
)

-- with other offers of the same plan and class
pub kept_on : (n : KeptNode) (o : KeptOffers) → o.plan ≡ n.offers.plan → o.class ≡ n.offers.class
    → IsKeptNode n → IsKeptNode (record n { offers = o })
kept_on n o plan class kept = record {
  each = kept.each ∙ ap (λ (p : Planned). length p.model.interactions) (sym plan);
  records = λ a e is.
      let its = kept.records a e is in
      record {
        inter = its.inter;
        class = its.class ∙ sym class;
        fit = subst (λ (p : Planned). IsFit p e.request) (sym plan) its.fit;
        earlier = its.earlier;
      };
}

-- what is read of records of which one was put
read_put : (xs : List (Option OpenRecord)) (a : ℕ) (x : Option OpenRecord) (b : ℕ) (f : OpenRecord)
    → a < length xs → get_or (set xs a x) b None ≡ Some f → ((b ≡ a) × (x ≡ Some f))
    ⊎ (get_or xs b None ≡ Some f)
read_put xs a x b f within is =
    let read = ap (λ (g : ℕ → Option OpenRecord). g b) (read-set xs a x None within) in
    elim (eqb_tells b a) [
      | inl same ↦ inl (same.1, rw same.0 at (sym read ∙ is))
      | inr apart ↦ inr (rw apart.0 at (sym read ∙ is))
    ]

-- with the record of one more request
pub one_more_kept : (n : KeptNode) (a : ℕ) (e : OpenRecord) → a < length n.pending
    → e.request.inter.0 ≡ a → e.request.class.0 ≡ n.offers.class → IsFit n.offers.plan e.request
    → e.request.request ≡ n.next → IsKeptNode n
    → IsKeptNode (record n { pending = set n.pending a (Some e); next = n.next + 1 })
one_more_kept n a e within inter class fit number kept = record {
  each = length-set n.pending a (Some e) ∙ kept.each;
  records = λ b f is. elim (read_put n.pending a (Some e) b f within is) [
    | inl here ↦
        let same : e ≡ f = cc in
        rw (← same, here.0) (record {
          inter = inter;
          class = class;
          fit = fit;
          earlier = omega (arith, number);
        })
    | inr there ↦
        let its = kept.records b f there in
        record {
          inter = its.inter;
          class = its.class;
          fit = its.fit;
          earlier = omega (arith, its.earlier);
        }
  ];
}

-- without one
pub one_less_kept : (n : KeptNode) (a : ℕ) → a < length n.pending → IsKeptNode n
    → IsKeptNode (record n { pending = set n.pending a None })
one_less_kept n a within kept = record {
  each = length-set n.pending a None ∙ kept.each;
  records = λ b f is. elim (read_put n.pending a None b f within is) [
    | inl here ↦ absurd (cc)
    | inr there ↦
        let its = kept.records b f there in
        record { inter = its.inter; class = its.class; fit = its.fit; earlier = its.earlier }
  ];
}

-- a record that is there stands in its place
pub record_within : (xs : List (Option OpenRecord)) (a : ℕ) (e : OpenRecord)
    → get_or xs a None ≡ Some e → a < length xs
record_within xs a e is = elim (cases_lt a (length xs)) [
  | inl within ↦ within
  | inr past ↦
      let none : None ≡ Some e = sym (get_or_past xs a None past) ∙ is in
      absurd (cc)
]

-- an interaction whose record is there is of the class
pub its_own : (n : KeptNode) (a : ℕ) (e : OpenRecord) → IsKeptNode n
    → get_or n.pending a None ≡ Some e → IsOwn (node_of n) a
its_own n a e kept is =
    let its = kept.records a e is in
    record {
      declared = omega (arith, record_within n.pending a e is, kept.each);
      class = sym (rw its.inter at its.fit.class) ∙ its.class;
    }

-- what is kept of an interaction is its record
pub record_its : (n : KeptNode) (a : ℕ) (result : Option OpenRecord) → IsKeptNode n
    → get_or n.pending a None ≡ result → IfSome result (IsItsRecord n a)
record_its n a None kept is = tt
record_its n a (Some e) kept is = kept.records a e is

-- a node that records one more request
pub asked_node : (n : KeptNode) (a : ℕ) (q : Request) (e : OpenRecord) → a < length n.pending
    → e ≡ record { request = q; notifies = told_of (node_of n) a }
    → node_of (record n { pending = set n.pending a (Some e); next = n.next + 1 }) ≡ with_record a q
    (node_of n)
asked_node n a q e within is =
    ap (λ (f : ℕ → Option OpenRecord). node_by (observed n.offers) f (n.next + 1))
    (read-set n.pending a (Some e) None within)
    ∙ ap (λ (x : OpenRecord). record (node_of n) {
      pending = put (node_of n).pending a (Some x);
      next = n.next + 1;
    }) is

-- a record's parts
abbrev pub record_by : Request → List Notify → OpenRecord
record_by q notifies = record { request = q; notifies = notifies }

pub same_record : (q r : Request) (notifies others : List Notify) → q ≡ r → notifies ≡ others
    → record_by q notifies ≡ record_by r others
same_record q r notifies others request is = rw (request, is) refl

-- what a node knows after it learned what wants move
pub learned_node : (n : KeptNode) (o : KeptOffers) (wants : List Want)
    → observed o ≡ with_learned wants (observed n.offers)
    → node_of (record n { offers = o }) ≡ with_grant_known wants (node_of n)
learned_node n o wants is = ap (λ (v : Observed). node_by v (node_of n).pending n.next) is

-- what a refusal leaves
pub refused_left : (n k : KeptNode) (a c used : ℕ) (o : KeptOffers)
    → node_of k ≡ without a (node_of n) → k.offers ≡ n.offers → o.plan ≡ k.offers.plan
    → o.class ≡ k.offers.class → o.held ≡ k.offers.held
    → (ClassTouches k.offers.plan k.offers.class c
    → observed o ≡ with_known c used (observed k.offers))
    → ((¬ ClassTouches k.offers.plan k.offers.class c) → o ≡ k.offers)
    → ((e : OpenRecord) → (node_of n).pending a ≡ Some e
    → All (λ (w : Want). ClassTouches n.offers.plan n.offers.class w.comp.0) e.request.wants)
    → IsLeftByRefusal a c used (node_of n) (node_of (record k { offers = o }))
refused_left n k a c used o is same plan class held touched others wants = record {
  pending = ap (λ (v : ClassNode). v.pending) is;
  next = ap (λ (v : ClassNode). v.next) is;
  plan = plan ∙ ap (λ (x : KeptOffers). x.plan) same;
  class = class ∙ ap (λ (x : KeptOffers). x.class) same;
  held = ap (λ (list : List (Option Offer)). λ (k : ℕ). get_or list k None)
      (held ∙ ap (λ (x : KeptOffers). x.held) same);
  wanted = λ e pending at. learned (subst (ClassTouches n.offers.plan n.offers.class) at.4
      (All-contains (λ (w : Want). ClassTouches n.offers.plan n.offers.class w.comp.0)
      e.request.wants at.1 (wants e pending) (at.0, at.2, at.3)));
  touched = learned;
  others = λ out. ap observed (others (λ there. out
      (subst (λ (x : KeptOffers). ClassTouches x.plan x.class c) same there)) ∙ same);
}
  where
    learned : ClassTouches n.offers.plan n.offers.class c
        → observed o ≡ with_known c used (observed n.offers)
    learned here = touched (subst (λ (x : KeptOffers). ClassTouches x.plan x.class c)
        (sym same) here) ∙ ap (λ (x : KeptOffers). with_known c used (observed x)) same

-- what an offer leaves
pub heard_node : (n : KeptNode) (offer : Offer) (receipt : Receipt) (o : KeptOffers)
    → IsLeftBy offer receipt n.offers o → node_of (record n { offers = o })
    ≡ after_offer offer receipt (node_of n)
heard_node n offer Held o left = ap (λ (v : Observed). node_by v (node_of n).pending n.next) left
heard_node n offer Old o left = ap (λ (k : KeptOffers). node_of (record n { offers = k })) left
heard_node n offer Stranger o left = ap (λ (k : KeptOffers). node_of (record n { offers = k })) left

-- the interactions whose requests are open, where none is
pub none_asked : (n : ℕ) → AreAsked 0 (nothings OpenRecord n)
none_asked n = λ a. rw (bit_at-zero a, read_nothing OpenRecord n a) refl

-- and where one record was put
pub asked_put : (before later : ℕ) (xs : List (Option OpenRecord)) (a : ℕ) (x : Option OpenRecord)
    → a < length xs → AreAsked before xs → ((b : ℕ)
    → has later b ≡ put (has before) a (is_some x) b) → AreAsked later (set xs a x)
asked_put before later xs a x within asked is = λ b.
    let read : get_or (set xs a x) b None ≡ put (λ k. get_or xs k None) a x b =
    ap (λ (g : ℕ → Option OpenRecord). g b) (read-set xs a x None within) in
    elim (eqb_tells b a) [
      | inl same ↦ (rw same.0 at (is b)) ∙ sym (ap is_some (rw same.0 at read))
      | inr apart ↦ (rw apart.0 at (is b)) ∙ (asked b ∙ sym (ap is_some (rw apart.0 at read)))
    ]

-- a node without the record of an interaction
pub taken_node : (n : KeptNode) (a : ℕ) → a < length n.pending
    → node_of (record n { pending = set n.pending a None }) ≡ without a (node_of n)
taken_node n a within = ap (λ (f : ℕ → Option OpenRecord). node_by (observed n.offers) f n.next)
    (read-set n.pending a None None within)

-- what holds in any case holds where there is a record
pub on_some : (result : Option OpenRecord) (P : Type 0) → P → OnSome result P
on_some None P holds = tt
on_some (Some e) P holds = holds
