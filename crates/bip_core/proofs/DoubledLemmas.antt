-- Worlds whose messages may be doubled: what agrees in the strict form agrees in the weaker one,
-- and messages that held before a small step join what agrees strictly after it.
use Rattle.std.proofs.Common.{◌≡◌, ℕ, ◌<◌, ◌≤◌, ◌⊎◌, List, [], ◌∷◌, ◌++◌, length, Option, Some}
use Rattle.std.proofs.Common.{refl, sym, ap, ◌∙◌, subst, inl, inr, arith}
use Rattle.std.proofs.lemmas.Bool.{eq-eqb}
use Rattle.std.proofs.lemmas.Option.{same_Some}
use Rattle.std.specs.Prelude.{Any}
use Rattle.bip_model.specs.Numbering.{put}
use Rattle.bip_model.specs.Parties.{AreExplained, AreParties}
use Rattle.bip_model.specs.Partitions.{class_in}
use Rattle.bip_model.specs.States.{State}
use Rattle.bip_model.specs.Wants.{IsFresh, moved_in, raised}
use Rattle.bip_model.specs.declared.grants.Grant.{Grant}
use Rattle.bip_model.specs.declared.messages.Offer.{Offer}
use Rattle.bip_model.specs.declared.messages.Reply.TheVariants.{Granted, Refused}
use Rattle.bip_model.specs.declared.messages.Request.{Request}
use Rattle.bip_model.specs.declared.numbering.ClassId.{ClassId}
use Rattle.bip_model.specs.declared.numbering.CompId.{CompId}
use Rattle.bip_model.specs.declared.parts.System.{System}
use Rattle.bip_model.specs.declared.wants.Want.{Want}
use Rattle.bip_model.specs.Steps.{after, start_of}
use Rattle.bip_partition.specs.Laws.{IsPlanned}
use Rattle.bip_partition.specs.Plans.{IsTabled, Planned, Touches}
use Rattle.bip_partition.proofs.LawLemmas.{each_moves, reserved_all}
use Rattle.bip_replay.specs.Runs.{IsRunFrom}
use Rattle.bip_ip.specs.declared.nodes.OpenRecord.{OpenRecord}
use Rattle.bip_bank.specs.Decisions.{grant_of}
use Rattle.bip_core.specs.Agreement.{AgreeAt}
use Rattle.bip_core.specs.Books.{BooksAgree, HasRecord, RecordFits}
use Rattle.bip_core.specs.Doubled.{AgreeWithCopiesAt, IsWaitedOrStale, MessageHolds}
use Rattle.bip_core.specs.Doubled.{RequestHolds, without_mail}
use Rattle.bip_core.specs.Lists.{In, put_at}
use Rattle.bip_core.specs.Numbers.{is_for}
use Rattle.bip_core.specs.Views.{View}
use Rattle.bip_core.specs.declared.messages.Message.{Message}
use Rattle.bip_core.specs.declared.messages.Message.TheVariants.{NotifyComponent, OfferTo}
use Rattle.bip_core.specs.declared.messages.Message.TheVariants.{ReplyToClass, RequestToBank}
use Rattle.bip_core.proofs.DeliveryLemmas.{offered}
use Rattle.bip_core.proofs.ListLemmas.{All-each, count-some, in-here, in-one, in-split, in-wider}
use Rattle.bip_core.proofs.ListLemmas.{each-All, one-Any}
use Rattle.bip_core.proofs.MailLemmas.{sends_offers}
use Rattle.bip_core.proofs.NumberLemmas.{owed_in}
use Rattle.bip_core.proofs.PutLemmas.{all_put}
use Rattle.bip_core.proofs.StepLemmas.{IsTaken}
use Rattle.bip_core.proofs.TryLemmas.{Takes}
use Rattle.bip_core.proofs.UsedLemmas.{moved-used}
use Rattle.bip_core.proofs.WantLemmas.{moved_with_one, touched}

-- a want of a component has no more than a used number
abbrev pub IsTooLow : ℕ → ℕ → Want → Type 0
IsTooLow c used x = (x.comp.0 ≡ c) × (x.number ≤ used)

-- each grant of a run is of an interaction of the model
declared_in : (m : System) (s : State) (used : ℕ → ℕ) (gs : List Grant) (g : Grant)
    → IsRunFrom m s used gs → In g gs → g.inter.0 < length m.interactions
declared_in m s used [] g run at = absurd at
declared_in m s used (f ∷ gs) g run at = elim at [
  | inl first ↦
      subst (λ (x : Grant). x.inter.0 < length m.interactions) (sym first)
      run.0.may.enabled.declared
  | inr later ↦ declared_in m (after m s f.inter.0) (raised used f.wants) gs g run.1 later
]

-- wants of an interaction aren't fresh where all that they move is used
pub not_fresh : {p : Planned} → IsPlanned p → {a : ℕ} {wants : List Want}
    → AreParties p.model a wants → a < length p.model.interactions → (used : ℕ → ℕ)
    → ((c : ℕ) → moved_in wants c ≤ used c) → ¬ IsFresh used wants
not_fresh {p} planned {a} {wants} parties declared used moved fresh =
    let (c, on) = each_moves p.model planned.valid a declared in
    let (v, at, comp, number) = moved_with_one parties c on in
    let above = All-each (λ (x : Want). used x.comp.0 < x.number) wants fresh v at in
    omega (arith, above, moved c, number, ap used comp)

-- what is fresh by greater used numbers is so by lower ones
pub fresh_below : (low high : ℕ → ℕ) (wants : List Want) → ((c : ℕ) → low c ≤ high c)
    → IsFresh high wants → IsFresh low wants
fresh_below low high wants less fresh =
    each-All (λ (x : Want). low x.comp.0 < x.number) wants (λ v at.
    let above = All-each (λ (x : Want). high x.comp.0 < x.number) wants fresh v at in
    omega (arith, above, less v.comp.0))

-- what a grant of a trace moves is used
pub used_by_trace : {p : Planned} {base : ℕ} {u : ℕ → ℕ} {w : View} → BooksAgree p base u w
    → (g : Grant) → In g w.trace → (c : ℕ) → moved_in g.wants c ≤ u c
used_by_trace {base = base} {w = w} h g at c =
    let low = moved-used (λ c. base) w.trace g c at in
    omega (arith, low, ap (λ (v : ℕ → ℕ). v c) h.used_is)

-- a class takes up without the mail what it takes up
pub takes_rest : {p : Planned} (u : ℕ → ℕ) {w : View} {k a : ℕ} {o : ℕ → Offer} {wants : List Want}
    → Takes p w k a o wants → Takes p (without_mail u w) k a o wants
takes_rest u t =
    record { inter = t.inter; home = t.home; free = t.free; ready = t.ready; held = t.held }

-- a message that was between others is in flight, and so are the others
pub was_in_flight : (w : View) (front back : List Message) (m : Message) → IsTaken w front back m
    → In m w.mail
was_in_flight w front back m whole =
    subst (λ (xs : List Message). In m xs) (sym whole) (in-here m front back)

pub was_left : (w : View) (front back : List Message) (m : Message) → IsTaken w front back m
    → (x : Message) → In x (front ++ back) → In x w.mail
was_left w front back m whole x at =
    subst (λ (xs : List Message). In x xs) (sym whole) (in-wider x m front back at)

-- what holds of requests and messages says nothing of known numbers, of what is held, in flight or
-- open, or of the bank
module _ (p : Planned) (u : ℕ → ℕ) (s : State) (w : View) (known : ℕ → ℕ → ℕ)
    (held : ℕ → ℕ → Option Offer) (mail : List Message) (used : ℕ → ℕ) (grants : List Grant)
    (waiting : ℕ → List Request) where
  abbrev other : View
  other = record w {
    known = known;
    held = held;
    mail = mail;
    used = used;
    grants = grants;
    waiting = waiting;
  }

  request_else : (q : Request) → RequestHolds p u w q → RequestHolds p u other q
  request_else q r = record { fit = r.fit; made = r.made; same = r.same; has = r.has }

  message_else : (m : Message) → MessageHolds p u s w m → MessageHolds p u s other m
  message_else (RequestToBank q) r = request_else q r
  message_else (ReplyToClass (Granted k n a serial)) r = record { made = r.made; so = r.so }
  message_else (ReplyToClass (Refused k n a c number)) r =
      (r.0, record { made = r.1.made; so = r.1.so })
  message_else (NotifyComponent n) r = record {
    of_grant = r.of_grant;
    not_owed = λ k a e x o. r.not_owed k a e x (owed_in w o.is o.granted o);
    leads = r.leads;
  }
  message_else (OfferTo k o) r = record { within = r.within; shows = r.shows }

-- what agrees strictly
module _ {p : Planned} {base : ℕ} {u : ℕ → ℕ} {s : State} {w : View}
    (h : AgreeAt p base u s w) where
  -- agrees without its mail
  pub to_rest : AgreeAt p base u s (without_mail u w)
  to_rest = record {
    books = record {
      used_is = h.books.used_is;
      history = h.books.history;
      fit = h.books.fit;
      bank_grants = h.books.bank_grants;
      bank_used = h.books.bank_used;
      at_most = λ k c. omega arith;
      alone = λ a c touches untabled. refl;
      own = λ g at. inr (used_by_trace h.books g at);
      records = h.books.records;
      apart = h.books.apart;
      mail = λ m at. absurd at;
      waiting = λ a q at. absurd at;
      once = λ a. omega arith;
    };
    numbers = record {
      low = h.numbers.low;
      high = h.numbers.high;
      limit = h.numbers.limit;
      spent = h.numbers.spent;
      mail = λ m at. absurd at;
      once = λ c. omega arith;
      held = h.numbers.held;
      records = h.numbers.records;
      owed = λ k a e n o. ((h.numbers.owed k a e n (owed_in w o.is o.granted o)).0, refl);
    };
    locals = record {
      end_is = h.locals.end_is;
      run = h.locals.run;
      at_rest = h.locals.at_rest;
      spent = h.locals.spent;
      mail = λ m at. absurd at;
      held = h.locals.held;
      owed = λ k a e n o. h.locals.owed k a e n (owed_in w o.is o.granted o);
      made = h.locals.made;
    };
  }

  -- each request with a record holds
  pub request_holds : (q : Request) → HasRecord w.trace w.pending q → RequestHolds p u w q
  request_holds q has = record {
    fit = record {
      reserved = fits.reserved;
      class = sym fits.home;
      parties = subst (λ (x : Request). AreParties p.model q.inter.0 x.wants) has.same fits.wants;
      explained =
          subst (λ (x : Request). AreExplained p.model q.inter.0 x.wants x.reasons) has.same
          fits.explained;
    };
    made = omega (arith, fits.below, number);
    same = λ b e is same.
        let inter = h.books.apart q.class.0 b q.inter.0 e has.entry is has.is (same ∙ sym number) in
        let there = ap (w.pending q.class.0) inter ∙ has.is in
        ap (λ (r : OpenRecord). r.request) (same_Some e has.entry (sym is ∙ there)) ∙ has.same;
    has = λ fresh. (has.entry, has.is, has.same);
  }
    where
      fits : RecordFits p w.next q.class.0 q.inter.0 has.entry
      fits = h.books.records q.class.0 q.inter.0 has.entry has.is

      number : has.entry.request.request ≡ q.request
      number = ap (λ (x : Request). x.request) has.same

  -- and each message in flight
  pub message_holds : (m : Message) → In m w.mail → MessageHolds p u s w m
  message_holds (RequestToBank q) at = request_holds q (h.books.mail (RequestToBank q) at)
  message_holds (ReplyToClass (Granted k n a serial)) at =
      let has = h.books.mail (ReplyToClass (Granted k n a serial)) at in
      record {
        made = omega (arith, (h.books.records k.0 a.0 has.entry has.is).below, has.same);
        so = λ e is same.
            subst (λ (x : OpenRecord). In (grant_of x.request) w.trace)
            (same_Some has.entry e (sym has.is ∙ is)) has.so;
      }
  message_holds (ReplyToClass (Refused k n a c used)) at =
      let has = h.books.mail (ReplyToClass (Refused k n a c used)) at in
      let fits = h.books.records k.0 a.0 has.entry has.is in (
        has.so.used_up,
        record {
          made = omega (arith, fits.below, has.same);
          so = λ e is same.
              subst (λ (x : OpenRecord). Any (IsTooLow c.0 used) x.request.wants)
              (same_Some has.entry e (sym has.is ∙ is)) has.so.wanted;
        },
      )
  message_holds (NotifyComponent n) at = record {
    of_grant = h.books.mail (NotifyComponent n) at;
    not_owed = λ k a e x o comp same.
        let own = eq-eqb n.comp.0 x.comp.0 (sym comp) in
        let some = count-some (is_for x.comp.0) (NotifyComponent n) w.mail at own in
        omega (arith, (h.numbers.owed k a e x o).1, some);
    leads = λ unspent own. h.locals.mail (NotifyComponent n) at;
  }
  message_holds (OfferTo k o) at = record {
    within = h.numbers.mail (OfferTo k o) at;
    shows = h.locals.mail (OfferTo k o) at;
  }

  -- so what holds in a world joins it in flight and open, and what its classes know, if that agrees
  pub joins : (known : ℕ → ℕ → ℕ) (mail : List Message) (waiting : ℕ → List Request)
      → ((k c : ℕ) → known k c ≤ u c)
      → ((a c : ℕ) → Touches p.model a c → ¬ IsTabled p c → known (class_in p.classes a) c ≡ u c)
      → ((g : Grant) → In g w.trace → IsWaitedOrStale p known w.pending g)
      → ((m : Message) → In m mail → In m w.mail ⊎ MessageHolds p u s w m)
      → ((a : ℕ) (q : Request) → In q (waiting a) → RequestHolds p u w q × (q.inter.0 ≡ a))
      → AgreeWithCopiesAt p base u s
      (record w { known = known; mail = mail; waiting = waiting })
  joins known mail waiting at_most alone own from opens = record {
    rest = to_rest;
    at_most = at_most;
    alone = alone;
    own = own;
    mail = λ m at.
        message_else p u s w known w.held mail w.used w.grants waiting m (elim (from m at) [
          | inl new ↦ message_holds m new
          | inr old ↦ old
        ]);
    waiting = λ a q at.
        let (holds, home) = opens a q at in
        (request_else p u s w known w.held mail w.used w.grants waiting q holds, home);
  }

-- so each agreement is one with copies
pub with_copies : {p : Planned} {base : ℕ} {u : ℕ → ℕ} {s : State} {w : View} → IsPlanned p
    → AgreeAt p base u s w → AgreeWithCopiesAt p base u s w
with_copies {p} {base} {w = w} planned h =
    joins h w.known w.mail w.waiting h.books.at_most h.books.alone own (λ m at. inl at)
    (λ a q at. let (has, home) = h.books.waiting a q at in (request_holds h q has, home))
  where
    own : (g : Grant) → In g w.trace → IsWaitedOrStale p w.known w.pending g
    own g at = elim (h.books.own g at) [
      | inl waits ↦ inl waits
      | inr knows ↦
          let declared =
          declared_in p.model (start_of p.model) (λ c. base) w.trace g h.locals.run at in
          inr (not_fresh planned (h.books.fit g at) declared
          (w.known (class_in p.classes g.inter.0)) knows)
    ]

-- what agrees with copies
module _ {p : Planned} {base : ℕ} {u : ℕ → ℕ} {s : State} {w : View}
    (h : AgreeWithCopiesAt p base u s w) where
  -- messages and open requests hold also of the world without its mail
  pub rest_message : (m : Message) → In m w.mail → MessageHolds p u s (without_mail u w) m
  rest_message m at =
      message_else p u s w (λ k. u) w.held [] w.used w.grants (λ a. []) m (h.mail m at)

  pub rest_request : (a : ℕ) (q : Request) → In q (w.waiting a)
      → RequestHolds p u (without_mail u w) q × (q.inter.0 ≡ a)
  rest_request a q at =
      let (holds, home) = h.waiting a q at in
      (request_else p u s w (λ k. u) w.held [] w.used w.grants (λ a. []) q holds, home)

  -- what is in flight and open changes, and all of it holds
  pub changed : (mail : List Message) (waiting : ℕ → List Request)
      → ((m : Message) → In m mail → MessageHolds p u s (without_mail u w) m)
      → ((a : ℕ) (q : Request) → In q (waiting a)
      → RequestHolds p u (without_mail u w) q × (q.inter.0 ≡ a))
      → AgreeWithCopiesAt p base u s (record w { mail = mail; waiting = waiting })
  changed mail waiting holds =
      joins h.rest w.known mail waiting h.at_most h.alone h.own (λ m at. inr (holds m at))

  -- messages are doubled, lost or taken out
  pub among : (mail : List Message) → ((m : Message) → In m mail → In m w.mail)
      → AgreeWithCopiesAt p base u s (record w { mail = mail })
  among mail those = changed mail w.waiting (λ m at. rest_message m (those m at)) rest_request

  -- a request is open
  pub asked_too : (front back : List Message) (q : Request)
      → IsTaken w front back (RequestToBank q)
      → AgreeWithCopiesAt p base u s
      (record w {
        mail = front ++ back;
        waiting = put w.waiting q.inter.0 (w.waiting q.inter.0 ++ q ∷ []);
      })
  asked_too front back q whole =
      let at = was_in_flight w front back (RequestToBank q) whole in
      changed (front ++ back) (put w.waiting q.inter.0 (w.waiting q.inter.0 ++ q ∷ []))
      (λ m left. rest_message m (was_left w front back (RequestToBank q) whole m left))
      (all_put
      (λ a qs. (x : Request) → In x qs
      → RequestHolds p u (without_mail u w) x × (x.inter.0 ≡ a))
      w.waiting q.inter.0 (w.waiting q.inter.0 ++ q ∷ [])
      (λ x opens. elim (in-split x (w.waiting q.inter.0) (q ∷ []) opens) [
        | inl old ↦ rest_request q.inter.0 x old
        | inr new ↦
            subst
            (λ (y : Request). RequestHolds p u (without_mail u w) y × (y.inter.0 ≡ q.inter.0))
            (sym (in-one x q new)) (rest_message (RequestToBank q) at, refl)
      ])
      (λ a other. rest_request a))

  -- an offer is held
  pub offered_too : (front back : List Message) (k : ClassId) (o : Offer)
      → IsTaken w front back (OfferTo k o)
      → AgreeWithCopiesAt p base u s
      (record w { mail = front ++ back; held = put_at w.held k.0 o.comp.0 (Some o) })
  offered_too front back k o whole =
      let holds = h.mail (OfferTo k o) (was_in_flight w front back (OfferTo k o) whole) in
      let sent = sends_offers h.rest (k ∷ []) o holds.within holds.shows in
      joins (offered sent [] [] k o refl) w.known (front ++ back) w.waiting h.at_most h.alone h.own
      (λ m at.
      inr (message_else p u s w (λ k. u) (put_at w.held k.0 o.comp.0 (Some o)) [] w.used w.grants
      (λ a. []) m (h.mail m (was_left w front back (OfferTo k o) whole m at))))
      (λ a q at.
      let (holds, home) = h.waiting a q at in (
        request_else p u s w (λ k. u) (put_at w.held k.0 o.comp.0 (Some o)) [] w.used w.grants
            (λ a. []) q holds,
        home,
      ))

  -- the bank refuses the oldest open request of an interaction
  pub refuses_too : (q : Request) (later : List Request) → w.waiting q.inter.0 ≡ q ∷ later
      → (c : CompId) (used : ℕ) (v : Want) → In v q.wants
      → (v.comp.0 ≡ c.0) × (v.number ≤ w.used c.0) → used ≡ w.used c.0
      → AgreeWithCopiesAt p base u s
      (record w {
        mail = w.mail ++ ReplyToClass (Refused q.class q.request q.inter c used) ∷ [];
        waiting = put w.waiting q.inter.0 later;
      })
  refuses_too q later oldest c used v wants low is =
      changed (w.mail ++ reply ∷ []) (put w.waiting q.inter.0 later)
      (λ m at. elim (in-split m w.mail (reply ∷ []) at) [
        | inl old ↦ rest_message m old
        | inr new ↦
            subst (MessageHolds p u s (without_mail u w)) (sym (in-one m reply new)) refusal
      ])
      (all_put
      (λ a qs. (x : Request) → In x qs
      → RequestHolds p u (without_mail u w) x × (x.inter.0 ≡ a))
      w.waiting q.inter.0 later (λ x at. was_open x (inr at)) (λ a other. rest_request a))
    where
      reply : Message
      reply = ReplyToClass (Refused q.class q.request q.inter c used)

      was_open : (x : Request) → In x (q ∷ later)
          → RequestHolds p u (without_mail u w) x × (x.inter.0 ≡ q.inter.0)
      was_open x at =
          rest_request q.inter.0 x (subst (λ (qs : List Request). In x qs) (sym oldest) at)

      holds : RequestHolds p u (without_mail u w) q
      holds = (was_open q (inl refl)).0

      row : IsTabled p c.0
      row =
          reserved_all p q.inter.0 c.0 holds.fit.reserved
          (subst (Touches p.model q.inter.0) low.0 (touched holds.fit.parties v wants))

      refusal : MessageHolds p u s (without_mail u w) reply
      refusal = (
        omega (arith, is, h.rest.books.bank_used c.0 row),
        record {
          made = holds.made;
          so = λ e there number.
              subst (λ (x : Request). Any (IsTooLow c.0 used) x.wants)
              (sym (holds.same q.inter.0 e there number))
              (one-Any (IsTooLow c.0 used) q.wants v wants (low.0, omega (arith, low.1, is)));
        },
      )
