-- What nodes and banks send fits, by their contracts: offers that a component can make, what can be
-- told, requests and replies.
use Rattle.std.proofs.Common.{◌≡◌, ◌∙◌, ℕ, ◌≤◌, ◌<◌, true, false, List}
use Rattle.std.proofs.Common.{[], None, Option, Some, ap, get_or, inl, inr, length, refl}
use Rattle.std.proofs.Common.{slice_get, subst, sym, arith}
use Rattle.std.specs.Prelude.{All, IsSomeAnd, IsTrue, unwrap_or, nat_lt}
use Rattle.std.specs.Option.{option_map_or}
use Rattle.std.proofs.lemmas.Bool.{false≢true, ltb-true}
use Rattle.std.proofs.lemmas.Bool.Decides.{eqb_tells}
use Rattle.std.proofs.lemmas.List.{get_or_default, get_or-map}
use Rattle.std.proofs.lemmas.List.Elements.{All-head}
use Rattle.std.proofs.lemmas.Option.{none-some, slice_get_cases}
use Rattle.bip_model.specs.Expressions.{counts}
use Rattle.bip_model.specs.Messages.{IsOfferIn}
use Rattle.bip_model.specs.Numbering.{put}
use Rattle.bip_model.specs.Parts.{IsComponent, IsInteraction, IsPortIn, IsSystem}
use Rattle.bip_model.specs.Parts.{Participant, count_of, counts_of}
use Rattle.bip_model.specs.Sets.{has}
use Rattle.bip_model.specs.States.{IsLocalStateOf}
use Rattle.bip_model.specs.Steps.{participants_of, transfer_of}
use Rattle.bip_model.specs.declared.messages.Notify.{Notify}
use Rattle.bip_model.specs.declared.messages.Offer.{Offer}
use Rattle.bip_model.specs.declared.messages.Reply.{Reply}
use Rattle.bip_model.specs.declared.messages.Reply.TheVariants as reply
use Rattle.bip_model.specs.declared.messages.Request.{Request}
use Rattle.bip_model.specs.declared.parts.System.{System}
use Rattle.bip_model.specs.declared.wants.Want.{Want}
use Rattle.bip_model.proofs.ExpressionLemmas.{counts-transferred}
use Rattle.bip_model.proofs.ListLemmas.{All-slice_get}
use Rattle.bip_model.proofs.PartyLemmas.{party_known}
use Rattle.bip_partition.proofs.ClassLemmas.{class_known}
use Rattle.bip_partition.proofs.TableLemmas.{reserved_known}
use Rattle.bip_partition.specs.Laws.{IsPlanned}
use Rattle.bip_partition.specs.Plans.{Planned}
use Rattle.bip_component.specs.Components.{IsNode, IsNodeAfter, IsNotified, IsOffered, Node}
use Rattle.bip_observe.proofs.DecideLemmas.{counts_held}
use Rattle.bip_observe.proofs.OfferLemmas.{shown_made}
use Rattle.bip_observe.proofs.ShowLemmas.{moves_each}
use Rattle.bip_observe.specs.Offers.{AreOwn, IsReceipt, Observed}
use Rattle.bip_observe.specs.Verdicts.{is_counted, no_offer, offers_of}
use Rattle.bip_observe.specs.declared.offers.Receipt.{Receipt}
use Rattle.bip_observe.specs.declared.offers.Receipt.TheVariants.{Held, Old, Stranger}
use Rattle.bip_ip.specs.Asking.{notify_of, values_offered}
use Rattle.bip_ip.specs.Nodes.{CanBeAsked, ClassNode, IsAnswered, IsLeftByReply, IsTried}
use Rattle.bip_ip.specs.Nodes.{after_offer, after_try, first_node, told_of}
use Rattle.bip_ip.specs.declared.nodes.Answered.{Answered}
use Rattle.bip_ip.specs.declared.nodes.Answered.TheVariants as answered
use Rattle.bip_ip.specs.declared.nodes.OpenRecord.{OpenRecord}
use Rattle.bip_ip.specs.declared.nodes.Tried.{Tried}
use Rattle.bip_ip.specs.declared.nodes.Tried.TheVariants as tried
use Rattle.bip_ip.proofs.LawLemmas.{asked_fits}
use Rattle.bip_ip.proofs.TellLemmas.{IsToldAt, length_values_told, told_at, values_told}
use Rattle.bip_bank.specs.Banks.{BankContent, IsActed}
use Rattle.bip_bank.specs.Decisions.{IsDecision, reply_to}
use Rattle.bip_bank.specs.Decisions.Decision.{Decision}
use Rattle.bip_bank.specs.Decisions.Decision.TheVariants as decision
use Rattle.bip_bank.specs.declared.banks.Acted.{Acted}
use Rattle.bip_bank.specs.declared.banks.Acted.TheVariants as acted
use Rattle.bip_component.specs.declared.components.Notified.{Notified}
use Rattle.bip_component.specs.declared.components.Notified.TheVariants as notified
use Rattle.bip_core.specs.Events.{SendsWhatFits}
use Rattle.bip_core.specs.Letters.{CanBeOffered, CanBeReplied, CanBeTold, IsNumberedRequest}
use Rattle.bip_core.specs.Starting.{AreFirstComponents}
use Rattle.bip_core.specs.Worlds.{KeepsWhatFits}
use Rattle.bip_core.specs.declared.events.What.TheVariants.{Acts, Learns, Moves, Tries}
use Rattle.bip_core.proofs.PutLemmas.{put_cases}

-- what a node offers its component can make
pub node_offers : (p : Planned) (node : Node) (offer : Offer) → IsSystem p.model → node.plan ≡ p
    → IsNode node → IsOfferIn p.model node.comp node.number node.local offer → CanBeOffered p offer
node_offers p node offer valid plan is offers =
    let there : slice_get p.model.components offer.comp.0 ≡ Some offers.shows.component =
    offers.shows.declared in
    let here : slice_get p.model.components node.comp ≡ Some offers.shows.component =
    rw offers.comp at there in
    let sound : IsComponent offers.shows.component =
    All-slice_get IsComponent p.model.components offer.comp.0 offers.shows.component
    valid.so_far.components there in
    let local : IsSomeAnd (slice_get p.model.components node.comp)
    (λ component. IsLocalStateOf component node.local) =
    subst (λ (q : Planned). IsSomeAnd (slice_get q.model.components node.comp)
    (λ component. IsLocalStateOf component node.local)) plan is.local in
    let own : IsLocalStateOf offers.shows.component node.local = rw here at local in
    record {
      some = omega (arith, offers.number, is.low);
      made = rw there (shown_made offers.shows.component node.local offer sound own offers.shows.ports
          offers.shows.values);
    }

-- what a node offers at the start
pub first_fits : (p : Planned) (base : ℕ) (nodes : List Node) (k : ℕ) (node : Node) (offer : Offer)
    → IsSystem p.model → AreFirstComponents p base nodes → slice_get nodes k ≡ Some node
    → IsNode node → IsOffered node (Some offer) → CanBeOffered p offer
first_fits p base nodes k node offer valid first here is offers =
    let plan = (first.first k node here).plan in
    node_offers p node offer valid plan is (subst (λ (q : Planned). IsOfferIn q.model node.comp
    node.number node.local offer) plan offers.1)

-- what is offered after a move
pub moved_fits : (p : Planned) (node later : Node) (n : Notify) (did : Notified) → IsSystem p.model
    → later.plan ≡ p → IsNode later → IsNotified node n did → IsNodeAfter node n did later
    → SendsWhatFits p (Moves did)
moved_fits p node later n (notified.Moved offer) valid plan is answer after =
    let offers : IsOfferIn later.plan.model later.comp later.number later.local offer =
    subst (λ (x : Node). IsOfferIn x.plan.model x.comp x.number x.local offer)
    (sym after) answer.2 in
    let here : IsOfferIn p.model later.comp later.number later.local offer =
    subst (λ (q : Planned). IsOfferIn q.model later.comp later.number later.local offer) plan
    offers in
    node_offers p later offer valid plan is here
moved_fits p node later n notified.Spent valid plan is answer after = tt
moved_fits p node later n notified.Stale valid plan is answer after = tt

-- an offer that counts has a number
counted_some : (v : Observed) (c : ℕ) → IsTrue (is_counted v c) → 1 ≤ (offers_of v c).number
counted_some v c counted = by_held (v.held c) counted
  where
    by_held : (o : Option Offer) → option_map_or
        (λ (offer : Offer). nat_lt (v.known c) offer.number) o false ≡ true
        → 1 ≤ (unwrap_or o no_offer).number
    by_held None on = absurd (false≢true on)
    by_held (Some offer) on = omega (arith, ltb-true (v.known c) offer.number on)

-- the participants of an interaction
ports_in : (m : System) (a : ℕ) → IsSystem m → a < length m.interactions
    → All (IsPortIn m.components) (participants_of m a)
ports_in m a valid declared = elim (slice_get_cases m.interactions a).1 [
  | inl here ↦ rw here.2 (All-slice_get (IsInteraction m.components) m.interactions a here.0
      valid.so_far.interactions here.2).ports
  | inr past ↦ absurd (omega (arith, declared, past.0))
]

-- what is told by offers that count can be taken
can_be_told : (p : Planned) (o : ℕ → Offer) (q : Participant) (values : List ℕ) → IsSystem p.model
    → IsPortIn p.model.components q → 1 ≤ (o q.0.0).number
    → length values ≡ count_of p.model.components q → CanBeTold p (notify_of o (q, values))
can_be_told p o q values valid port some counted =
    elim (slice_get_cases p.model.components q.0.0).1 [
      | inl here ↦
          let sound : IsComponent here.0 = All-slice_get IsComponent p.model.components q.0.0 here.0
          valid.so_far.components here.2 in
          let has_port : q.1.0 < length here.0.ports = rw here.2 at port.port in
          let many : length values ≡ length here.0.variables = rw here.2 at counted in
          record {
            some = some;
            port = omega (arith, has_port, sound.so_far.few_ports);
            taken = rw here.2 (record { values = many; port = has_port });
          }
      | inr past ↦ absurd (omega (arith, port.component, past.0))
    ]

pub told_fits : (p : Planned) (v : ClassNode) (a : ℕ) → IsSystem p.model → v.offers.plan ≡ p
    → AreOwn v.offers → CanBeAsked v a → All (CanBeTold p) (told_of v a)
told_fits p v a valid plan own can = subst (λ (q : Planned). All (CanBeTold q) (told_of v a)) plan
    (λ k d within. each (get_or (told_of v a) k d) k within
    (get_or_default (told_of v a) k (get_or (told_of v a) k d) d within))
  where
    q : Planned
    q = v.offers.plan

    m : System
    m = q.model

    o : ℕ → Offer
    o = offers_of v.offers

    sound : IsSystem m
    sound = subst (λ (x : Planned). IsSystem x.model) (sym plan) valid

    counted : All (λ (r : Participant). IsTrue (is_counted v.offers r.0.0)) (participants_of m a)
    counted k d within = can.ready.moved _ (moves_each m a k d within)

    same : counts (values_told m o a) ≡ counts_of m.components (participants_of m a)
    same = counts-transferred (transfer_of m a) (values_offered m o a)
        ∙ counts_held v.offers (participants_of m a) own counted

    each : (n : Notify) (k : ℕ) → k < length (told_of v a) → get_or (told_of v a) k n ≡ n
        → CanBeTold q n
    each n k within is =
        let told : IsToldAt m o a n k = told_at m o a n (k, within, is) in
        let r : Participant = get_or (participants_of m a) k (n.comp, n.port) in
        let values : List ℕ = get_or (values_told m o a) k [] in
        let inside : k < length (values_told m o a) = rw (length_values_told m o a) told.within in
        let here : length values ≡ get_or (counts (values_told m o a)) k 0 =
        sym (get_or-map length (values_told m o a) k [] 0 inside) in
        let there : get_or (counts_of m.components (participants_of m a)) k 0
        ≡ count_of m.components r = get_or-map (count_of m.components) (participants_of m a) k
        (n.comp, n.port) 0 told.within in
        let counted_here : length values ≡ count_of m.components r = here
        ∙ (ap (λ (l : List ℕ). get_or l k 0) same ∙ there) in
        let port : IsPortIn m.components r = ports_in m a sound can.own.declared k
        (n.comp, n.port) told.within in
        let some : 1 ≤ (o r.0.0).number = counted_some v.offers r.0.0
        (counted k (n.comp, n.port) told.within) in
        subst (CanBeTold q) told.is (can_be_told q o r values sound port some counted_here)

-- what a try sends
pub tried_fits : (p : Planned) (v : ClassNode) (a : ℕ) (did : Tried) → IsSystem p.model
    → v.offers.plan ≡ p → KeepsWhatFits p v → IsTried v a did → SendsWhatFits p (Tries did)
tried_fits p v a tried.Foreign valid plan keeps is = tt
tried_fits p v a (tried.Pending b) valid plan keeps is = tt
tried_fits p v a (tried.Not x) valid plan keeps is = tt
tried_fits p v a (tried.Local g notifies) valid plan keeps is =
    rw is.4 (told_fits p v a valid plan keeps.held is.0)
tried_fits p v a tried.Ended valid plan keeps is = tt
tried_fits p v a (tried.Sent q) valid plan keeps is = record {
  some = omega (arith, is.3.number, keeps.next);
  fit = rw plan at (asked_fits v a q is);
}

-- what a reply lets tell
pub replied_fits : (p : Planned) (v : ClassNode) (r : Reply) (did : Answered) → KeepsWhatFits p v
    → IsAnswered v r did → SendsWhatFits p (Learns did)
replied_fits p v (reply.Granted k q a s) (answered.Told notifies) keeps is =
    rw is.2 (keeps.told a.0 is.0 is.1.pending)
replied_fits p v (reply.Refused k q a c n) (answered.Told notifies) keeps is = absurd is
replied_fits p v r answered.Dropped keeps is = tt
replied_fits p v r answered.Stale keeps is = tt

-- what a node has stays so
pub first_keeps : (p : Planned) (k base : ℕ) → KeepsWhatFits p (first_node p k base 1)
first_keeps p k base = record {
  held = λ c offer is. absurd (none-some offer is);
  told = λ a e is. absurd (none-some e is);
  next = omega arith;
}

pub heard_keeps : (p : Planned) (offer : Offer) (receipt : Receipt) (v later : ClassNode)
    → IsReceipt v.offers offer receipt → later ≡ after_offer offer receipt v → KeepsWhatFits p v
    → KeepsWhatFits p later
heard_keeps p offer Held v later is left keeps = subst (KeepsWhatFits p) (sym left) (record {
  held = λ c x at. elim (put_cases v.offers.held offer.comp.0 offer c x at) [
    | inl here ↦ rw (← here.1, here.0) (refl, is.0)
    | inr there ↦ keeps.held c x there
  ];
  told = keeps.told;
  next = keeps.next;
})
heard_keeps p offer Old v later is left keeps = subst (KeepsWhatFits p) (sym left) keeps
heard_keeps p offer Stranger v later is left keeps = subst (KeepsWhatFits p) (sym left) keeps

pub tried_keeps : (p : Planned) (v later : ClassNode) (a : ℕ) (did : Tried) → IsSystem p.model
    → v.offers.plan ≡ p → KeepsWhatFits p v → IsTried v a did → later ≡ after_try a did v
    → KeepsWhatFits p later
tried_keeps p v later a tried.Foreign valid plan keeps is left =
    subst (KeepsWhatFits p) (sym left) keeps
tried_keeps p v later a (tried.Pending b) valid plan keeps is left =
    subst (KeepsWhatFits p) (sym left) keeps
tried_keeps p v later a (tried.Not x) valid plan keeps is left =
    subst (KeepsWhatFits p) (sym left) keeps
tried_keeps p v later a (tried.Local g notifies) valid plan keeps is left =
    subst (KeepsWhatFits p) (sym left) (record {
      held = keeps.held;
      told = keeps.told;
      next = keeps.next;
    })
tried_keeps p v later a tried.Ended valid plan keeps is left =
    subst (KeepsWhatFits p) (sym left) keeps
tried_keeps p v later a (tried.Sent q) valid plan keeps is left =
    let entry : OpenRecord = record { request = q; notifies = told_of v a } in
    subst (KeepsWhatFits p) (sym left) (record {
      held = keeps.held;
      told = λ b e at. elim (put_cases v.pending a entry b e at) [
        | inl here ↦ rw (← here.1) (told_fits p v a valid plan keeps.held is.0)
        | inr there ↦ keeps.told b e there
      ];
      next = omega (arith, keeps.next);
    })

-- one record less
taken : (f : ℕ → Option OpenRecord) (k j : ℕ) (e : OpenRecord) → put f k None j ≡ Some e
    → f j ≡ Some e
taken f k j e is = elim (eqb_tells j k) [
  | inl same ↦ absurd (none-some e (rw same.0 at is))
  | inr other ↦ rw other.0 at is
]

pub replied_keeps : (p : Planned) (v later : ClassNode) (r : Reply) (did : Answered)
    → KeepsWhatFits p v → IsAnswered v r did → IsLeftByReply r did v later → KeepsWhatFits p later
replied_keeps p v later (reply.Granted k q a s) (answered.Told notifies) keeps is left =
    subst (KeepsWhatFits p) (sym (left is.0 is.1)) (record {
      held = keeps.held;
      told = λ b e at. keeps.told b e (taken v.pending a.0 b e at);
      next = keeps.next;
    })
replied_keeps p v later (reply.Granted k q a s) answered.Dropped keeps is left = absurd is
replied_keeps p v later (reply.Granted k q a s) answered.Stale keeps is left =
    subst (KeepsWhatFits p) (sym left) keeps
replied_keeps p v later (reply.Refused k q a c n) (answered.Told notifies) keeps is left = absurd is
replied_keeps p v later (reply.Refused k q a c n) answered.Dropped keeps is left = record {
  held = rw (left.held, left.plan, left.class) keeps.held;
  told = λ b e at. keeps.told b e (taken v.pending a.0 b e (rw left.pending at at));
  next = rw left.next keeps.next;
}
replied_keeps p v later (reply.Refused k q a c n) answered.Stale keeps is left =
    subst (KeepsWhatFits p) (sym left) keeps

-- what a bank decides
pub reply_fits : (p : Planned) (used : ℕ → ℕ) (q : Request) (d : Decision) → IsPlanned p
    → IsNumberedRequest p q → IsDecision used q.wants d → CanBeReplied p (reply_to q d)
reply_fits p used q (decision.Granted serial) planned open_ decides =
    let declared = reserved_known p q.inter.0 planned.valid open_.fit.reserved in
    let class : q.class.0 < length p.classes.members =
    rw open_.fit.class (class_known p q.inter.0 planned declared) in
    record {
      numbered = open_.some;
      accepted = record {
        known = record { address = class; names = (class, declared) };
        fits = refl;
      };
    }
reply_fits p used q (decision.Refused c n) planned open_ decides =
    let declared = reserved_known p q.inter.0 planned.valid open_.fit.reserved in
    let class : q.class.0 < length p.classes.members =
    rw open_.fit.class (class_known p q.inter.0 planned declared) in
    let at = decides.0.here in
    let comp : c.0 < length p.model.components =
    rw (← at.4.0) (party_known p.model q.inter.0 q.wants at.1 planned.valid open_.fit.parties
    (at.0, at.2, at.3)) in
    let some : 1 ≤ (at.1).number = subst (λ (w : Want). 1 ≤ w.number) at.3
    (open_.numbered at.0 at.1 at.2) in
    record {
      numbered = (open_.some, omega (arith, decides.1, at.4.1, some));
      accepted = record {
        known = record { address = class; names = (class, declared, comp) };
        fits = refl;
      };
    }

pub acted_fits : (p : Planned) (did : Acted) (b later : BankContent) → IsPlanned p
    → IsActed did b later → ((a : ℕ) → All (IsNumberedRequest p) (b.waiting a))
    → SendsWhatFits p (Acts did)
acted_fits p acted.Nothing b later planned is fit = tt
acted_fits p acted.Moved b later planned is fit = tt
acted_fits p (acted.Answered q d) b later planned is fit =
    reply_fits p b.used q d planned (All-head (IsNumberedRequest p) q is.rest
    (subst (λ (l : List Request). All (IsNumberedRequest p) l) is.oldest (fit q.inter.0)))
    is.decision
