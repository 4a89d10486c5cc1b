-- A grant joins the trace, of an open request, of which copies may be anywhere, or of a local
-- interaction; and a class asks. The part of the world that is without its mail agrees strictly: so
-- each does what it does there.
use Rattle.std.proofs.Common.{◌≡◌, ◌≢◌, ℕ, ◌<◌, ◌≤◌, ◌⊎◌, List, [], ◌∷◌, ◌++◌, length}
use Rattle.std.proofs.Common.{Some, refl, sym, ap, ◌∙◌, subst, inl, inr, arith}
use Rattle.std.proofs.lemmas.Bool.{cases_eq}
use Rattle.bip_model.proofs.LawLemmas.{others_stay}
use Rattle.bip_model.specs.Numbering.{put}
use Rattle.bip_model.specs.Parties.{AreWantsBy}
use Rattle.bip_model.specs.Partitions.{class_in}
use Rattle.bip_model.specs.States.{State}
use Rattle.bip_model.specs.Steps.{after}
use Rattle.bip_model.specs.Wants.{IsFresh, raised}
use Rattle.bip_model.specs.declared.grants.Grant.{Grant}
use Rattle.bip_model.specs.declared.messages.Notify.{Notify}
use Rattle.bip_model.specs.declared.messages.Offer.{Offer}
use Rattle.bip_model.specs.declared.messages.Reply.TheVariants.{Granted, Refused}
use Rattle.bip_model.specs.declared.messages.Request.{Request}
use Rattle.bip_model.specs.declared.wants.Want.{Want}
use Rattle.bip_partition.specs.Laws.{IsPlanned}
use Rattle.bip_partition.specs.Plans.{IsReserved, IsTabled, Planned, Touches}
use Rattle.bip_partition.proofs.LawLemmas.{local_none, reserved_all}
use Rattle.bip_bank.specs.Decisions.{grant_of}
use Rattle.bip_ip.specs.Asking.{told_by}
use Rattle.bip_ip.specs.declared.nodes.OpenRecord.{OpenRecord}
use Rattle.bip_core.specs.Agreement.{AgreeAt}
use Rattle.bip_core.specs.Books.{HasRecord}
use Rattle.bip_core.specs.Doubled.{AgreeWithCopiesAt, IsWaitedOrStale, MessageHolds, RequestHolds}
use Rattle.bip_core.specs.Doubled.{without_mail}
use Rattle.bip_core.specs.Events.{are_notified}
use Rattle.bip_core.specs.Lists.{In}
use Rattle.bip_core.specs.Numbers.{IsOwed}
use Rattle.bip_core.specs.Views.{TakesTo, View}
use Rattle.bip_core.specs.declared.messages.Message.{Message}
use Rattle.bip_core.specs.declared.messages.Message.TheVariants.{NotifyComponent, OfferTo}
use Rattle.bip_core.specs.declared.messages.Message.TheVariants.{ReplyToClass, RequestToBank}
use Rattle.bip_core.proofs.DeliveryLemmas as deliveries
use Rattle.bip_core.proofs.DoubledLemmas.{fresh_below, joins, not_fresh, takes_rest, used_by_trace}
use Rattle.bip_core.proofs.DoubledMoveLemmas.{told_used}
use Rattle.bip_core.proofs.ListLemmas.{All-each, each-All, in-front, in-one, in-split}
use Rattle.bip_core.proofs.LocalLemmas.{shows_still}
use Rattle.bip_core.proofs.MailLemmas.{sends_about}
use Rattle.bip_core.proofs.NumberLemmas.{IsFreshGrant, MovesOn, Rests, grant_cases, owed_in}
use Rattle.bip_core.proofs.PutLemmas.{all_put, put_here}
use Rattle.bip_core.proofs.PutLemmas.{put_other}
use Rattle.bip_core.proofs.ServeLemmas.{serves}
use Rattle.bip_core.proofs.TryLemmas as tries
use Rattle.bip_core.proofs.TryLemmas.{WantedCount, Takes, granting_to}
use Rattle.bip_core.proofs.UsedLemmas.{learning, learns_more, learns_within}
use Rattle.bip_core.proofs.WantLemmas.{touched, want_of}

-- a fresh grant joins the trace
module _ {p : Planned} {base : ℕ} {u : ℕ → ℕ} {s : State} {w : View}
    (h : AgreeWithCopiesAt p base u s w) {g : Grant} (its : IsFreshGrant p.model u w.number g)
    (known : ℕ → ℕ → ℕ) (mail : List Message) (used : ℕ → ℕ) (grants : List Grant)
    (waiting : ℕ → List Request) where
  abbrev joined : View
  joined = record w {
    trace = w.trace ++ g ∷ [];
    known = known;
    mail = mail;
    used = used;
    grants = grants;
    waiting = waiting;
  }

  abbrev next_used : ℕ → ℕ
  next_used = raised u g.wants

  abbrev next_state : State
  next_state = after p.model s g.inter.0

  cases : (c : ℕ) → MovesOn p.model u w.number g c ⊎ Rests p.model u g c
  cases = grant_cases h.rest.numbers its

  still : (c : ℕ) → Rests p.model u g c → next_state c ≡ s c
  still c rests = others_stay p.model s g.inter.0 c rests.unmoved

  joined_request : (q : Request) → RequestHolds p u w q → RequestHolds p next_used joined q
  joined_request q r = record {
    fit = r.fit;
    made = r.made;
    same = r.same;
    has = λ fresh. r.has (fresh_below u next_used q.wants (λ c. omega arith) fresh);
  }

  -- a component that its record tells was not told of that number
  not_owed_now : (n : Notify) → n.number ≤ u n.comp.0
      → ((k a : ℕ) (e : OpenRecord) (x : Notify) → IsOwed w k a e x → x.comp.0 ≡ n.comp.0
      → x.number ≢ n.number)
      → (k a : ℕ) (e : OpenRecord) (x : Notify) → IsOwed joined k a e x → x.comp.0 ≡ n.comp.0
      → x.number ≢ n.number
  not_owed_now n low before k a e x o comp same =
      elim (in-split (grant_of e.request) w.trace (g ∷ []) o.granted) [
        | inl old ↦ before k a e x (owed_in w o.is old o) comp same
        | inr new ↦
            let is = in-one (grant_of e.request) g new in
            let (v, among, there, number) = (h.rest.numbers.records k a e o.is).same x o.tells in
            let wants = subst (λ (f : Grant). In v f.wants) is among in
            let above = All-each (λ (y : Want). u y.comp.0 < y.number) g.wants its.fresh v wants in
            absurd (omega (arith, above, low, same, number, ap u comp, ap u there))
      ]

  joined_message : (m : Message) → MessageHolds p u s w m
      → MessageHolds p next_used next_state joined m
  joined_message (RequestToBank q) r = joined_request q r
  joined_message (ReplyToClass (Granted k n a serial)) r = record {
    made = r.made;
    so = λ e is same. in-front (grant_of e.request) w.trace (g ∷ []) (r.so e is same);
  }
  joined_message (ReplyToClass (Refused k n a c x)) r =
      (omega (arith, r.0), record { made = r.1.made; so = r.1.so })
  joined_message (NotifyComponent n) r =
      let (f, at, moved) = r.of_grant in
      let low = told_used h.rest.books n r.of_grant in
      record {
        of_grant = (f, in-front f w.trace (g ∷ []) at, moved);
        not_owed = not_owed_now n low r.not_owed;
        leads = λ unspent own. elim (cases n.comp.0) [
          | inl moves ↦ absurd (omega (arith, own, moves.next, low))
          | inr rests ↦
              subst (TakesTo p.model n (w.state n.comp.0)) (sym (still n.comp.0 rests))
              (r.leads unspent own)
        ];
      }
  joined_message (OfferTo k o) r = record {
    within = r.within;
    shows = λ unused. elim (cases o.comp.0) [
      | inl moves ↦ absurd (omega (arith, unused, moves.used, r.within))
      | inr rests ↦
          shows_still p.model s next_state o (still o.comp.0 rests)
          (r.shows (omega (arith, unused, rests.used)))
    ];
  }

  joined_waiting : (a : ℕ) (q : Request) → In q (w.waiting a)
      → RequestHolds p next_used joined q × (q.inter.0 ≡ a)
  joined_waiting a q at =
      let (holds, home) = h.waiting a q at in (joined_request q holds, home)

-- a request that is fresh has its record, and isn't granted
module _ {p : Planned} (planned : IsPlanned p) {base : ℕ} {u : ℕ → ℕ} {s : State} {w : View}
    (h : AgreeWithCopiesAt p base u s w) (q : Request) (holds : RequestHolds p u w q)
    (fresh_there : IsFresh w.used q.wants) where
  pub fresh : IsFresh u q.wants
  fresh = each-All (λ (v : Want). u v.comp.0 < v.number) q.wants (λ v at.
      let above = All-each (λ (x : Want). w.used x.comp.0 < x.number) q.wants fresh_there v at in
      let touches = touched holds.fit.parties v at in
      let row = reserved_all p q.inter.0 v.comp.0 holds.fit.reserved touches in
      omega (arith, above, h.rest.books.bank_used v.comp.0 row))

  abbrev entry : OpenRecord
  entry = (holds.has fresh).0

  entry_is : w.pending q.class.0 q.inter.0 ≡ Some entry
  entry_is = (holds.has fresh).1

  entry_same : entry.request ≡ q
  entry_same = (holds.has fresh).2

  declared : q.inter.0 < length p.model.interactions
  declared =
      subst (λ (x : Request). x.inter.0 < length p.model.interactions) entry_same
      (h.rest.locals.made q.class.0 q.inter.0 entry entry_is).ready.declared

  pub not_granted : ¬ In (grant_of q) w.trace
  not_granted at =
      not_fresh planned holds.fit.parties declared u
      (used_by_trace h.rest.books (grant_of q) at) fresh

  its_record : HasRecord w.trace w.pending q
  its_record =
      record { entry = entry; is = entry_is; same = entry_same; not_granted = not_granted }

  its_grant : IsFreshGrant p.model u w.number (grant_of q)
  its_grant = record {
    fresh = fresh;
    parties = holds.fit.parties;
    own = λ v at.
        (h.rest.numbers.records q.class.0 q.inter.0 entry entry_is).wants v
        (subst (λ (x : Request). In v x.wants) (sym entry_same) at);
  }

-- the bank grants the oldest open request of an interaction
module _ {p : Planned} (planned : IsPlanned p) {base : ℕ} {u : ℕ → ℕ} {s : State} {w : View}
    (h : AgreeWithCopiesAt p base u s w) (q : Request) (later : List Request)
    (oldest : w.waiting q.inter.0 ≡ q ∷ later) (fresh_there : IsFresh w.used q.wants) where
  was_open : (x : Request) → In x (q ∷ later) → RequestHolds p u w x × (x.inter.0 ≡ q.inter.0)
  was_open x at =
      h.waiting q.inter.0 x (subst (λ (qs : List Request). In x qs) (sym oldest) at)

  holds : RequestHolds p u w q
  holds = (was_open q (inl refl)).0

  its : IsFreshGrant p.model u w.number (grant_of q)
  its = its_grant planned h q holds fresh_there

  -- without its mail the world agrees where this request is in flight, and open
  in_flight : AgreeAt p base u s
      (record (without_mail u w) { mail = [] ++ RequestToBank q ∷ [] })
  in_flight =
      sends_about h.rest q.inter.0 (RequestToBank q) (λ b. refl) (λ c. refl) (omega arith)
      (its_record planned h q holds fresh_there, tt, tt)

  opens : AgreeAt p base u s
      (record (without_mail u w) { waiting = put (λ a. []) q.inter.0 (q ∷ []) })
  opens = deliveries.asked in_flight [] [] q refl

  module _ (serial : ℕ) where
    abbrev reply : Message
    reply = ReplyToClass (Granted q.class q.request q.inter serial)

    abbrev waiting : ℕ → List Request
    waiting = put w.waiting q.inter.0 later

    granted : AgreeAt p base (raised u q.wants) (after p.model s q.inter.0)
        (record (without_mail u w) {
          trace = w.trace ++ grant_of q ∷ [];
          used = raised w.used q.wants;
          grants = w.grants ++ grant_of q ∷ [];
          mail = [] ++ reply ∷ [];
          waiting = put (put (λ a. []) q.inter.0 (q ∷ [])) q.inter.0 [];
        })
    granted =
        serves planned opens (put_here {X = List Request} (λ a. []) q.inter.0 (q ∷ [])) fresh_there
        serial

    abbrev serving : (ℕ → List Request) → View
    serving opens = record (without_mail u w) {
      trace = w.trace ++ grant_of q ∷ [];
      used = raised w.used q.wants;
      grants = w.grants ++ grant_of q ∷ [];
      mail = [] ++ reply ∷ [];
      waiting = opens;
    }

    own : (g : Grant) → In g (w.trace ++ grant_of q ∷ []) → IsWaitedOrStale p w.known w.pending g
    own g at = elim (in-split g w.trace (grant_of q ∷ []) at) [
      | inl old ↦ h.own g old
      | inr new ↦
          let (e, is, same) = holds.has (fresh planned h q holds fresh_there) in
          let home = ap (λ (k : ℕ). w.pending k q.inter.0) (sym holds.fit.class) in
          subst (IsWaitedOrStale p w.known w.pending) (sym (in-one g (grant_of q) new))
          (inl (e, home ∙ is, ap grant_of same))
    ]

    pub serves_too : AgreeWithCopiesAt p base (raised u q.wants) (after p.model s q.inter.0)
        (record w {
          trace = w.trace ++ grant_of q ∷ [];
          used = raised w.used q.wants;
          grants = w.grants ++ grant_of q ∷ [];
          mail = w.mail ++ reply ∷ [];
          waiting = waiting;
        })
    serves_too =
        joins granted w.known (w.mail ++ reply ∷ []) waiting
        (λ k c. omega (arith, h.at_most k c))
        (λ a c touches untabled.
        h.alone a c touches untabled ∙ granted.books.alone a c touches untabled)
        own
        (λ m at. elim (in-split m w.mail (reply ∷ []) at) [
          | inl old ↦
              inr (joined_message h its (λ k. u) ([] ++ reply ∷ []) (raised w.used q.wants)
              (w.grants ++ grant_of q ∷ []) served m (h.mail m old))
          | inr new ↦ inl new
        ])
        (all_put
        (λ a qs. (x : Request) → In x qs
        → RequestHolds p (raised u q.wants) (serving served) x × (x.inter.0 ≡ a))
        w.waiting q.inter.0 later
        (λ x at.
        let (old, home) = was_open x (inr at) in (
          joined_request h its (λ k. u) ([] ++ reply ∷ []) (raised w.used q.wants)
              (w.grants ++ grant_of q ∷ []) served x old,
          home,
        ))
        (λ a other.
        joined_waiting h its (λ k. u) ([] ++ reply ∷ []) (raised w.used q.wants)
        (w.grants ++ grant_of q ∷ []) served a))
      where
        served : ℕ → List Request
        served = put (put (λ a. []) q.inter.0 (q ∷ [])) q.inter.0 []

-- a class tries an interaction
module _ {p : Planned} (planned : IsPlanned p) {base : ℕ} {u : ℕ → ℕ} {s : State} {w : View}
    (h : AgreeWithCopiesAt p base u s w) where
  -- it grants a local one: it alone knows the used numbers of what this moves, so these are all
  module _ (k : ℕ) (o : ℕ → Offer) (g : Grant) (takes : Takes p w k g.inter.0 o g.wants)
      (counts : WantedCount w k o g.wants) (by : AreWantsBy p.model o g.inter.0 [] g.wants)
      (local : ¬ IsReserved p g.inter.0) where
    wanted_count : WantedCount (without_mail u w) k o g.wants
    wanted_count c has =
        let v = want_of by c has in
        let touches = touched by.parties v.want v.among in
        let untabled = local_none p g.inter.0 v.want.comp.0 local touches in
        let home = ap (λ (j : ℕ). w.known j v.want.comp.0) takes.home in
        omega (
          arith,
          h.alone g.inter.0 v.want.comp.0 touches untabled,
          home,
          counts c has,
          ap u v.comp,
          ap (w.known k) v.comp,
        )

    its_local : IsFreshGrant p.model u w.number g
    its_local = tries.its planned h.rest (takes_rest u takes) wanted_count by local

    granted_rest : AgreeAt p base (raised u g.wants) (after p.model s g.inter.0)
        (granting_to p (without_mail u w) k g.inter.0 o g)
    granted_rest = tries.grants planned h.rest (takes_rest u takes) wanted_count by local

    abbrev learnt : ℕ → ℕ → ℕ
    learnt = learning w.known k g.wants

    alone_after : (a c : ℕ) → Touches p.model a c → ¬ IsTabled p c
        → learnt (class_in p.classes a) c ≡ raised u g.wants c
    alone_after a c touches untabled =
        let j = class_in p.classes a in
        let before = h.alone a c touches untabled in
        let rest = granted_rest.books.alone a c touches untabled in
        elim (cases_eq j k) [
          | inl same ↦
              let there = ap (λ (i : ℕ). learnt i c) same in
              let now = put_here w.known k (raised (w.known k) g.wants) in
              let was = ap (λ (i : ℕ). w.known i c) same in
              omega (arith, there, ap (λ (f : ℕ → ℕ). f c) now, was, before)
          | inr other ↦
              let mine = put_other w.known k (raised (w.known k) g.wants) j other in
              let rests = put_other (λ i. u) k (raised u g.wants) j other in
              omega (
                arith,
                ap (λ (f : ℕ → ℕ). f c) mine,
                ap (λ (f : ℕ → ℕ). f c) rests,
                before,
                rest,
              )
        ]

    own_local : (f : Grant) → In f (w.trace ++ g ∷ []) → IsWaitedOrStale p learnt w.pending f
    own_local f at = elim (in-split f w.trace (g ∷ []) at) [
      | inl old ↦ elim (h.own f old) [
        | inl waits ↦ inl waits
        | inr stale ↦
            let home = class_in p.classes f.inter.0 in
            let more = learns_more w.known k g.wants home in
            inr (λ fresh. stale (fresh_below (w.known home) (learnt home) f.wants more fresh))
      ]
      | inr new ↦
          subst (IsWaitedOrStale p learnt w.pending) (sym (in-one f g new))
          (inr (not_fresh planned by.parties takes.inter (learnt (class_in p.classes g.inter.0))
          (λ c.
          let there = ap (λ (i : ℕ). learnt i c) takes.home in
          let now = put_here w.known k (raised (w.known k) g.wants) in
          omega (arith, there, ap (λ (f : ℕ → ℕ). f c) now))))
    ]

    pub grants_too : AgreeWithCopiesAt p base (raised u g.wants) (after p.model s g.inter.0)
        (granting_to p w k g.inter.0 o g)
    grants_too =
        joins granted_rest learnt (w.mail ++ are_notified (told_by p.model o g.inter.0)) w.waiting
        (learns_within w.known k g.wants (raised u g.wants)
        (λ j c. omega (arith, h.at_most j c)) (λ c. omega arith))
        alone_after own_local
        (λ m at. elim (in-split m w.mail (are_notified (told_by p.model o g.inter.0)) at) [
          | inl old ↦
              inr (joined_message h its_local (learning (λ j. u) k g.wants)
              ([] ++ are_notified (told_by p.model o g.inter.0)) w.used w.grants (λ a. []) m
              (h.mail m old))
          | inr new ↦ inl new
        ])
        (joined_waiting h its_local (learning (λ j. u) k g.wants)
        ([] ++ are_notified (told_by p.model o g.inter.0)) w.used w.grants (λ a. []))
