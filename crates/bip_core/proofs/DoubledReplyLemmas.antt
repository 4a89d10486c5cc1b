-- A reply is handed on, and its record goes. One that is granted tells its components; one that is
-- refused, by a copy of its request, may be granted too, and then nobody tells them.
use Rattle.std.proofs.Common.{◌≡◌, ℕ, ◌<◌, ◌≤◌, List, [], ◌∷◌, ◌++◌}
use Rattle.std.proofs.Common.{Some, None, Bool, cond, refl, sym, ap, ◌∙◌, subst, inl, inr}
use Rattle.std.proofs.Common.{arith}
use Rattle.std.proofs.lemmas.Bool.{cases_Bool, eqb-true}
use Rattle.std.proofs.lemmas.Option.{same_Some}
use Rattle.std.specs.Prelude.{◌==◌, Any}
use Rattle.bip_model.specs.Numbering.{put}
use Rattle.bip_model.specs.Partitions.{class_in}
use Rattle.bip_model.specs.States.{State}
use Rattle.bip_model.specs.Wants.{IsFresh, moved_in, raised}
use Rattle.bip_model.specs.declared.grants.Grant.{Grant}
use Rattle.bip_model.specs.declared.messages.Reply.TheVariants.{Granted, Refused}
use Rattle.bip_model.specs.declared.messages.Request.{Request}
use Rattle.bip_model.specs.declared.numbering.ClassId.{ClassId}
use Rattle.bip_model.specs.declared.numbering.CompId.{CompId}
use Rattle.bip_model.specs.declared.numbering.InterId.{InterId}
use Rattle.bip_model.specs.declared.wants.Want.{Want}
use Rattle.bip_partition.specs.Laws.{IsPlanned}
use Rattle.bip_partition.specs.Plans.{IsTabled, Planned, Touches}
use Rattle.bip_bank.specs.Decisions.{grant_of}
use Rattle.bip_ip.specs.declared.nodes.OpenRecord.{OpenRecord}
use Rattle.bip_core.specs.Agreement.{AgreeAt}
use Rattle.bip_core.specs.Books.{HasReplied}
use Rattle.bip_core.specs.Doubled.{AgreeWithCopiesAt, IsWaitedOrStale, MessageHolds, ReplyHolds}
use Rattle.bip_core.specs.Doubled.{RequestHolds, without_mail}
use Rattle.bip_core.specs.Events.{are_notified}
use Rattle.bip_core.specs.Lists.{In, put_at}
use Rattle.bip_core.specs.Views.{View}
use Rattle.bip_core.specs.declared.messages.Message.{Message}
use Rattle.bip_core.specs.declared.messages.Message.TheVariants.{NotifyComponent, OfferTo}
use Rattle.bip_core.specs.declared.messages.Message.TheVariants.{ReplyToClass, RequestToBank}
use Rattle.bip_core.proofs.BookLemmas as books
use Rattle.bip_core.proofs.DeliveryLemmas as deliveries
use Rattle.bip_core.proofs.DoubledLemmas.{IsTooLow, fresh_below, joins, not_fresh, used_by_trace}
use Rattle.bip_core.proofs.DoubledLemmas.{was_in_flight, was_left}
use Rattle.bip_core.proofs.ListLemmas.{All-each, Any-one, in-split}
use Rattle.bip_core.proofs.LocalLemmas as locals
use Rattle.bip_core.proofs.MailLemmas.{sends_about}
use Rattle.bip_core.proofs.NumberLemmas as numbers
use Rattle.bip_core.proofs.NumberLemmas.{owed_in}
use Rattle.bip_core.proofs.PutLemmas.{all_put, at_same, put_at_apart, put_here, taken_at}
use Rattle.bip_core.proofs.StepLemmas.{IsTaken, IsTaught}
use Rattle.bip_core.proofs.UsedLemmas.{learning, learns_more, learns_within}

-- a record goes that isn't fresh, and known numbers rise
module _ {p : Planned} {base : ℕ} {u : ℕ → ℕ} {s : State} {w : View}
    (h : AgreeWithCopiesAt p base u s w) {k a : ℕ} {e : OpenRecord} (at : w.pending k a ≡ Some e)
    (stale : ¬ IsFresh u e.request.wants) (known : ℕ → ℕ → ℕ) (mail : List Message) where
  abbrev gone : View
  gone = record (without_mail u w) {
    known = known;
    mail = mail;
    pending = put_at w.pending k a None;
  }

  was_there : (j b : ℕ) (f : OpenRecord) → put_at w.pending k a None j b ≡ Some f
      → w.pending j b ≡ Some f
  was_there j b f is = (taken_at w.pending k a j b f is).1

  -- the record at its place
  is_it : (j b : ℕ) (f : OpenRecord) → j ≡ k → b ≡ a → w.pending j b ≡ Some f → f ≡ e
  is_it j b f class inter is =
      same_Some f e (sym is ∙ (at_same w.pending class inter ∙ at))

  left_request : (q : Request) → RequestHolds p u w q → RequestHolds p u gone q
  left_request q r = record {
    fit = r.fit;
    made = r.made;
    same = λ b f is. r.same b f (was_there q.class.0 b f is);
    has = λ fresh.
        let (f, is, same) = r.has fresh in
        elim (put_at_apart w.pending k a None q.class.0 q.inter.0) [
          | inl place ↦
              let found = is_it q.class.0 q.inter.0 f place.0 place.1 is in
              let its = ap (λ (x : OpenRecord). x.request) found in
              absurd (stale (subst (λ (x : Request). IsFresh u x.wants) (sym same ∙ its) fresh))
          | inr other ↦ (f, other ∙ is, same)
        ];
  }

  left_message : (m : Message) → MessageHolds p u s w m → MessageHolds p u s gone m
  left_message (RequestToBank q) r = left_request q r
  left_message (ReplyToClass (Granted j n b serial)) r =
      record { made = r.made; so = λ f is. r.so f (was_there j.0 b.0 f is) }
  left_message (ReplyToClass (Refused j n b c used)) r =
      (r.0, record { made = r.1.made; so = λ f is. r.1.so f (was_there j.0 b.0 f is) })
  left_message (NotifyComponent n) r = record {
    of_grant = r.of_grant;
    not_owed = λ j b f x o.
        r.not_owed j b f x (owed_in w (was_there j b f o.is) o.granted o);
    leads = r.leads;
  }
  left_message (OfferTo j o) r = record { within = r.within; shows = r.shows }

  -- by what its class knows, its grant isn't fresh, nor is any that wasn't
  left_own : ((j c : ℕ) → w.known j c ≤ known j c) → ¬ IsFresh (known k) e.request.wants
      → (g : Grant) → In g w.trace
      → IsWaitedOrStale p known (put_at w.pending k a None) g
  left_own more learnt g in_trace = elim (h.own g in_trace) [
    | inl (f, is, same) ↦
        let home = class_in p.classes g.inter.0 in
        elim (put_at_apart w.pending k a None home g.inter.0) [
          | inl place ↦
              let found = is_it home g.inter.0 f place.0 place.1 is in
              let its = ap (λ (x : OpenRecord). grant_of x.request) found in
              let grants : grant_of e.request ≡ g = sym its ∙ same in
              inr (subst (λ (j : ℕ). ¬ IsFresh (known j) g.wants) (sym place.0)
              (subst (λ (x : Grant). ¬ IsFresh (known k) x.wants) grants learnt))
          | inr other ↦ inl (f, other ∙ is, same)
        ]
    | inr old ↦
        let home = class_in p.classes g.inter.0 in
        inr (λ fresh. old (fresh_below (w.known home) (known home) g.wants (more home) fresh))
  ]

-- what is known stays, where no number falls
known_alone : {p : Planned} {base : ℕ} {u : ℕ → ℕ} {s : State} {w : View}
    → AgreeWithCopiesAt p base u s w → (known : ℕ → ℕ → ℕ)
    → ((j c : ℕ) → w.known j c ≤ known j c) → ((j c : ℕ) → known j c ≤ u c)
    → (a c : ℕ) → Touches p.model a c → ¬ IsTabled p c → known (class_in p.classes a) c ≡ u c
known_alone {p} h known more at_most a c touches untabled =
    let k = class_in p.classes a in
    omega (arith, h.alone a c touches untabled, more k c, at_most k c)

-- a granted record tells
module _ {p : Planned} (planned : IsPlanned p) {base : ℕ} {u : ℕ → ℕ} {s : State} {w : View}
    (h : AgreeWithCopiesAt p base u s w) (front back : List Message) (k : ClassId) (number : ℕ)
    (a : InterId) (serial : ℕ)
    (whole : IsTaken w front back (ReplyToClass (Granted k number a serial))) (e : OpenRecord)
    (at : w.pending k.0 a.0 ≡ Some e) (named : e.request.request ≡ number) where
  abbrev reply : Message
  reply = ReplyToClass (Granted k number a serial)

  in_trace : In (grant_of e.request) w.trace
  in_trace =
      let holds : ReplyHolds u w (Granted k number a serial) =
      h.mail reply (was_in_flight w front back reply whole) in
      holds.so e at named

  used : (c : ℕ) → moved_in e.request.wants c ≤ u c
  used = used_by_trace h.rest.books (grant_of e.request) in_trace

  -- it isn't fresh where all that it moved is used
  stale : (known : ℕ → ℕ) → ((c : ℕ) → moved_in e.request.wants c ≤ known c)
      → ¬ IsFresh known e.request.wants
  stale =
      let its = h.rest.books.records k.0 a.0 e at in
      let made = h.rest.locals.made k.0 a.0 e at in
      not_fresh planned made.wants_are.parties made.ready.declared

  -- without its mail the world agrees where this reply is in flight
  replied : AgreeAt p base u s (record (without_mail u w) { mail = [] ++ reply ∷ [] })
  replied =
      sends_about h.rest a.0 reply (λ b. refl) (λ c. refl) (omega arith) (has_replied, tt, tt)
    where
      has_replied : HasReplied w.pending k.0 number a.0 (λ f. In (grant_of f.request) w.trace)
      has_replied = record { entry = e; is = at; same = named; so = in_trace }

  abbrev learnt : ℕ → ℕ → ℕ
  learnt = learning w.known k.0 e.request.wants

  now_known : (c : ℕ) → moved_in e.request.wants c ≤ learnt k.0 c
  now_known c =
      let now = put_here w.known k.0 (raised (w.known k.0) e.request.wants) in
      omega (arith, ap (λ (f : ℕ → ℕ). f c) now)

  pub granted_too : AgreeWithCopiesAt p base u s
      (record w {
        mail = (front ++ back) ++ are_notified e.notifies;
        known = learnt;
        pending = put_at w.pending k.0 a.0 None;
      })
  granted_too =
      let more = learns_more w.known k.0 e.request.wants in
      let at_most = learns_within w.known k.0 e.request.wants u h.at_most used in
      joins (deliveries.granted replied [] [] k number a serial refl e at) learnt
      ((front ++ back) ++ are_notified e.notifies) w.waiting at_most
      (known_alone h learnt more at_most)
      (left_own h at (stale u used) learnt [] more (stale (learnt k.0) now_known))
      (λ m there. elim (in-split m (front ++ back) (are_notified e.notifies) there) [
        | inl old ↦
            inr (left_message h at (stale u used) (learning (λ j. u) k.0 e.request.wants)
            (are_notified e.notifies) m (h.mail m (was_left w front back reply whole m old)))
        | inr new ↦ inl new
      ])
      (λ b q there.
      let (opens, home) = h.waiting b q there in (
        left_request h at (stale u used) (learning (λ j. u) k.0 e.request.wants)
            (are_notified e.notifies) q opens,
        home,
      ))

-- a refused record is dropped, also where it is granted
module _ {p : Planned} {base : ℕ} {u : ℕ → ℕ} {s : State} {w : View}
    (h : AgreeWithCopiesAt p base u s w) (front back : List Message) (k : ClassId) (number : ℕ)
    (a : InterId) (c : CompId) (told : ℕ)
    (whole : IsTaken w front back (ReplyToClass (Refused k number a c told))) (e : OpenRecord)
  where
    abbrev refusal : Message
    refusal = ReplyToClass (Refused k number a c told)

    holds : ReplyHolds u w (Refused k number a c told)
    holds = h.mail refusal (was_in_flight w front back refusal whole)

    too_low : w.pending k.0 a.0 ≡ Some e → e.request.request ≡ number
        → (x : Want) × In x e.request.wants × IsTooLow c.0 told x
    too_low at named = Any-one (IsTooLow c.0 told) e.request.wants (holds.1.so e at named)

    pub was_wanted_too : w.pending k.0 a.0 ≡ Some e → e.request.request ≡ number
        → Any (λ (x : Want). x.comp.0 ≡ c.0) e.request.wants
    was_wanted_too at named =
        let any = holds.1.so e at named in (any.0, any.1, any.2, any.3, any.4.0)

    module _ (learnt : ℕ → ℕ) (is : IsTaught w k number a c told e learnt) where
      named_want : (x : Want) × In x e.request.wants × IsTooLow c.0 told x
      named_want = too_low is.is is.named

      -- by used numbers that reach what is told it isn't fresh
      stale_by : (used : ℕ → ℕ) → told ≤ used c.0 → ¬ IsFresh used e.request.wants
      stale_by used reached fresh =
          let (x, among, low) = named_want in
          let above = All-each (λ (y : Want). used y.comp.0 < y.number) e.request.wants fresh x
          among in
          omega (arith, above, low.1, reached, ap used low.0)

      abbrev knows : ℕ → ℕ → ℕ
      knows = put w.known k.0 learnt

      more : (j b : ℕ) → w.known j b ≤ knows j b
      more =
          all_put (λ j now. (b : ℕ) → w.known j b ≤ now b) w.known k.0 learnt is.more
          (λ j other b. omega arith)

      at_most : (j b : ℕ) → knows j b ≤ u b
      at_most =
          all_put (λ j now. (b : ℕ) → now b ≤ u b) w.known k.0 learnt learnt_most
          (λ j other. h.at_most j)
        where
          learnt_most : (b : ℕ) → learnt b ≤ u b
          learnt_most b = elim (cases_Bool (b == c.0)) [
            | inl its ↦
                let most = ap (λ (t : Bool). cond {A = ℕ} t told 0) its in
                let same = ap u (eqb-true b c.0 its) in
                omega (arith, is.taught b, h.at_most k.0 b, holds.0, most, same)
            | inr other ↦
                let none = ap (λ (t : Bool). cond {A = ℕ} t told 0) other in
                omega (arith, is.taught b, h.at_most k.0 b, none)
          ]

      -- without its mail the world agrees where the record is gone: all that it moved is known
      dropped : AgreeAt p base u s
          (record (without_mail u w) { pending = put_at w.pending k.0 a.0 None })
      dropped = record {
        books =
            books.removed h.rest.books is.is (omega arith)
            (used_by_trace h.rest.books (grant_of e.request));
        numbers = numbers.removed h.rest.numbers was;
        locals = locals.removed h.rest.locals was;
      }
        where
          was : (j b : ℕ) (f : OpenRecord) → put_at w.pending k.0 a.0 None j b ≡ Some f
              → w.pending j b ≡ Some f
          was j b f there = (taken_at w.pending k.0 a.0 j b f there).1

      pub refused_too : AgreeWithCopiesAt p base u s
          (record w {
            mail = front ++ back;
            known = knows;
            pending = put_at w.pending k.0 a.0 None;
          })
      refused_too =
          let stale = stale_by u holds.0 in
          joins dropped knows (front ++ back) w.waiting at_most (known_alone h knows more at_most)
          (left_own h is.is stale knows [] more
          (subst (λ (f : ℕ → ℕ). ¬ IsFresh f e.request.wants) (sym (put_here w.known k.0 learnt))
          (stale_by learnt is.told)))
          (λ m there.
          inr (left_message h is.is stale (λ j. u) [] m
          (h.mail m (was_left w front back refusal whole m there))))
          (λ b q there.
          let (opens, home) = h.waiting b q there in
          (left_request h is.is stale (λ j. u) [] q opens, home))
