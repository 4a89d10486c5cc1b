-- Each delivery keeps a world in agreement with its trace: an offer is held, a request is open, a
-- component moves as it is told, a class hears that its request was granted or refused.
use Rattle.std.proofs.Common.{length-append, ◌≡◌, ℕ, ◌+◌, ◌<◌, ◌≤◌, ◌⊎◌, max, List, [], ◌∷◌, ◌++◌}
use Rattle.std.proofs.Common.{length, Bool, true, cond, Some, None, refl, sym, ap, ◌∙◌, subst, inl}
use Rattle.std.proofs.Common.{inr, arith}
use Rattle.std.proofs.lemmas.Bool.{eq-eqb, eqb-true, cases_Bool}
use Rattle.std.proofs.lemmas.Option.{same_Some}
use Rattle.std.specs.Prelude.{◌==◌, Any}
use Rattle.bip_model.specs.Messages.{ShowsState}
use Rattle.bip_model.specs.Numbering.{last_number, put}
use Rattle.bip_model.specs.Partitions.{class_in}
use Rattle.bip_model.specs.States.{State}
use Rattle.bip_model.specs.Wants.{moved_in, raised}
use Rattle.bip_model.specs.declared.grants.Grant.{Grant}
use Rattle.bip_model.specs.declared.messages.Notify.{Notify}
use Rattle.bip_model.specs.declared.messages.Offer.{Offer}
use Rattle.bip_model.specs.declared.messages.Reply.TheVariants.{Granted, Refused}
use Rattle.bip_model.specs.declared.messages.Request.{Request}
use Rattle.bip_model.specs.declared.numbering.ClassId.{ClassId}
use Rattle.bip_model.specs.declared.numbering.CompId.{CompId}
use Rattle.bip_model.specs.declared.numbering.InterId.{InterId}
use Rattle.bip_model.specs.declared.wants.Want.{Want}
use Rattle.bip_partition.specs.Plans.{Planned}
use Rattle.bip_bank.specs.Decisions.{grant_of}
use Rattle.bip_ip.specs.declared.nodes.OpenRecord.{OpenRecord}
use Rattle.bip_core.specs.Events.{are_notified}
use Rattle.bip_core.specs.declared.messages.Message.{Message}
use Rattle.bip_core.specs.declared.messages.Message.TheVariants.{NotifyComponent, OfferTo}
use Rattle.bip_core.specs.declared.messages.Message.TheVariants.{ReplyToClass, RequestToBank}
use Rattle.bip_core.specs.Agreement.{AgreeAt}
use Rattle.bip_core.specs.Books.{HasRecord, HasReplied, IsDenied, is_about}
use Rattle.bip_core.specs.Lists.{In, count, put_at}
use Rattle.bip_core.specs.Numbers.{IsAwaited, IsOwed, is_for}
use Rattle.bip_core.specs.Sentences.{NobodyTells}
use Rattle.bip_core.specs.Views.{View, lead}
use Rattle.bip_core.proofs.BookLemmas as books
use Rattle.bip_core.proofs.BookLemmas.{NothingAbout}
use Rattle.bip_core.proofs.ListLemmas.{count-some, in-here, in-one, in-split}
use Rattle.bip_core.proofs.LocalLemmas as locals
use Rattle.bip_core.proofs.LocalLemmas.{made_tells}
use Rattle.bip_core.proofs.MailLemmas.{MayTell, no_more, one_less, offers_to, sends_offers}
use Rattle.bip_core.proofs.MailLemmas.{sends_told, taken}
use Rattle.bip_core.proofs.NumberLemmas as numbers
use Rattle.bip_core.proofs.NumberLemmas.{owed_in}
use Rattle.bip_core.proofs.PutLemmas.{all_put, put_at_cases, put_here, put_other, taken_at}
use Rattle.bip_core.proofs.UsedLemmas.{granted_once, learning, learns_more, learns_within}
use Rattle.bip_core.proofs.UsedLemmas.{moved-used}

-- a message is taken out from between others
module _ {p : Planned} {base : ℕ} {u : ℕ → ℕ} {s : State} {w : View} (h : AgreeAt p base u s w)
    (front back : List Message) where
  abbrev pub left : View
  left = record w { mail = front ++ back }

  in_flight : (m : Message) → w.mail ≡ front ++ m ∷ back → In m w.mail
  in_flight m whole = subst (λ (xs : List Message). In m xs) (sym whole) (in-here m front back)

  -- nothing else is about its interaction
  alone_about : (m : Message) (a : ℕ) → w.mail ≡ front ++ m ∷ back → is_about a m ≡ true
      → NothingAbout left a
  alone_about m a whole about =
      omega (arith, h.books.once a, one_less (is_about a) w.mail front back m whole about)

  -- an offer is held
  pub offered : (k : ClassId) (o : Offer) → w.mail ≡ front ++ OfferTo k o ∷ back
      → AgreeAt p base u s
      (record w { mail = front ++ back; held = put_at w.held k.0 o.comp.0 (Some o) })
  offered k o whole =
      let rest = taken h front back (OfferTo k o) whole in
      let at = in_flight (OfferTo k o) whole in
      let within : o.number ≤ w.number o.comp.0 = h.numbers.mail (OfferTo k o) at in
      record {
        books = books.elsewhere rest.books;
        numbers = numbers.heard rest.numbers (λ j c x is. elim (held_now j c x is) [
          | inl new ↦
              subst (λ (y : Offer). (y.comp.0 ≡ c) × (y.number ≤ w.number c)) new.2
              (sym new.1, subst (λ (d : ℕ). o.number ≤ w.number d) (sym new.1) within)
          | inr old ↦ h.numbers.held j c x old
        ]);
        locals = locals.heard rest.locals (λ j c x is. elim (held_now j c x is) [
          | inl new ↦
              subst (λ (y : Offer). u y.comp.0 < y.number → ShowsState p.model s y) new.2
              (h.locals.mail (OfferTo k o) at)
          | inr old ↦ h.locals.held j c x old
        ]);
      }
    where
      held_now : (j c : ℕ) (x : Offer) → put_at w.held k.0 o.comp.0 (Some o) j c ≡ Some x
          → ((j ≡ k.0) × (c ≡ o.comp.0) × (o ≡ x)) ⊎ (w.held j c ≡ Some x)
      held_now = put_at_cases w.held k.0 o.comp.0 o

  -- a request is open
  pub asked : (q : Request) → w.mail ≡ front ++ RequestToBank q ∷ back
      → AgreeAt p base u s
      (record w {
        mail = front ++ back;
        waiting = put w.waiting q.inter.0 (w.waiting q.inter.0 ++ q ∷ []);
      })
  asked q whole =
      let rest = taken h front back (RequestToBank q) whole in
      record {
        books = books.queued rest.books
            (all_put
            (λ a qs. (x : Request) → In x qs → HasRecord w.trace w.pending x × (x.inter.0 ≡ a))
            w.waiting q.inter.0 queue open_fit (λ a other. h.books.waiting a))
            (all_put
            (λ a qs. count (is_about a) (front ++ back) + length qs ≤ 1)
            w.waiting q.inter.0 queue once (λ a other. rest.books.once a));
        numbers = numbers.elsewhere rest.numbers;
        locals = locals.elsewhere rest.locals;
      }
    where
      queue : List Request
      queue = w.waiting q.inter.0 ++ q ∷ []

      open_fit : (x : Request) → In x queue
          → HasRecord w.trace w.pending x × (x.inter.0 ≡ q.inter.0)
      open_fit x at = elim (in-split x (w.waiting q.inter.0) (q ∷ []) at) [
        | inl old ↦ h.books.waiting q.inter.0 x old
        | inr new ↦
            let has = h.books.mail (RequestToBank q) (in_flight (RequestToBank q) whole) in
            subst (λ (y : Request). HasRecord w.trace w.pending y × (y.inter.0 ≡ q.inter.0))
            (sym (in-one x q new)) (has, refl)
      ]

      once : count (is_about q.inter.0) (front ++ back) + length queue ≤ 1
      once =
          let own = eq-eqb q.inter.0 q.inter.0 refl in
          let nothing = alone_about (RequestToBank q) q.inter.0 whole own in
          omega (arith, nothing, length-append (w.waiting q.inter.0) (q ∷ []))

  -- a component moves by what it is told
  module _ (n : Notify) (whole : w.mail ≡ front ++ NotifyComponent n ∷ back) where
    abbrev pub moved_state : State
    moved_state = put w.state n.comp.0 (lead p.model n (w.state n.comp.0))

    rest : AgreeAt p base u s left
    rest = taken h front back (NotifyComponent n) whole

    awaited : IsAwaited u w.number w.spent n
    awaited = h.numbers.mail (NotifyComponent n) (in_flight (NotifyComponent n) whole)

    leads : lead p.model n (w.state n.comp.0) ≡ s n.comp.0
    leads = (h.locals.mail (NotifyComponent n) (in_flight (NotifyComponent n) whole)).leads

    -- it was told once
    nobody : NobodyTells left n.comp.0
    nobody = record {
      in_flight =
          let passes = eq-eqb n.comp.0 n.comp.0 refl in
          let its = NotifyComponent n in
          let one = one_less (is_for n.comp.0) w.mail front back its whole passes in
          omega (arith, h.numbers.once n.comp.0, one);
      owed = λ k a e x o same.
          let owes = owed_in w o.is o.granted o in
          let at = in_flight (NotifyComponent n) whole in
          let own = eq-eqb n.comp.0 x.comp.0 (sym same) in
          let some = count-some (is_for x.comp.0) (NotifyComponent n) w.mail at own in
          omega (arith, (h.numbers.owed k a e x owes).1, some);
    }

    -- it goes on to the next number, and offers its next move
    pub moved_on : (ks : List ClassId) (o : Offer) → w.number n.comp.0 < last_number
        → o.comp.0 ≡ n.comp.0 → o.number ≡ w.number n.comp.0 + 1
        → ShowsState p.model moved_state o
        → AgreeAt p base u s
        (record w {
          state = moved_state;
          number = put w.number n.comp.0 (w.number n.comp.0 + 1);
          mail = (front ++ back) ++ offers_to ks o;
        })
    moved_on ks o room comp number shows =
        let later : ℕ → ℕ = put w.number n.comp.0 (w.number n.comp.0 + 1) in
        let now = put_here w.number n.comp.0 (w.number n.comp.0 + 1) in
        let within : o.number ≤ later o.comp.0 = omega (arith, number, ap later comp ∙ now) in
        sends_offers moved ks o within (λ _. locals.shows_still p.model moved_state s o there shows)
      where
        moved : AgreeAt p base u s
            (record left {
              state = moved_state;
              number = put w.number n.comp.0 (w.number n.comp.0 + 1);
            })
        moved = record {
          books = books.elsewhere rest.books;
          numbers =
              numbers.elsewhere
              (numbers.stepped rest.numbers awaited.used nobody awaited.unspent room);
          locals =
              locals.stepped rest.locals n nobody leads
              (put_other w.number n.comp.0 (w.number n.comp.0 + 1)) (λ d other. refl);
        }

        there : s o.comp.0 ≡ moved_state o.comp.0
        there =
            let now = put_here w.state n.comp.0 (lead p.model n (w.state n.comp.0)) in
            ap s comp ∙ (sym (now ∙ leads) ∙ sym (ap moved_state comp))

    -- or ends with the last one
    pub moved_last : w.number n.comp.0 ≡ last_number
        → AgreeAt p base u s
        (record w {
          state = moved_state;
          spent = put w.spent n.comp.0 true;
          mail = front ++ back;
        })
    moved_last last = record {
      books = books.elsewhere rest.books;
      numbers = numbers.elsewhere (numbers.ended rest.numbers awaited.used nobody last);
      locals =
          locals.stepped rest.locals n nobody leads
          (λ d other. refl) (put_other w.spent n.comp.0 true);
    }

  -- a record goes with the reply to it, once its class knows what it moved if it was granted
  unrecorded : {k a : ℕ} {e : OpenRecord} (m : Message) → w.mail ≡ front ++ m ∷ back
      → is_about a m ≡ true → w.pending k a ≡ Some e → (known : ℕ → ℕ → ℕ)
      → ((j c : ℕ) → w.known j c ≤ known j c) → ((j c : ℕ) → known j c ≤ u c)
      → (In (grant_of e.request) w.trace → (c : ℕ) → moved_in e.request.wants c ≤ known k c)
      → AgreeAt p base u s
      (record w { mail = front ++ back; known = known; pending = put_at w.pending k a None })
  unrecorded {k} {a} {e} m whole about at known more at_most learnt =
      let rest = taken h front back m whole in
      record {
        books =
            books.removed (books.learned rest.books more at_most) at
            (alone_about m a whole about) learnt;
        numbers = numbers.elsewhere (numbers.removed rest.numbers was_there);
        locals = locals.elsewhere (locals.removed rest.locals was_there);
      }
    where
      was_there : (j b : ℕ) (f : OpenRecord) → put_at w.pending k a None j b ≡ Some f
          → w.pending j b ≡ Some f
      was_there j b f is = (taken_at w.pending k a j b f is).1

  -- a granted record tells
  module _ (k : ClassId) (number : ℕ) (a : InterId) (serial : ℕ)
      (whole : w.mail ≡ front ++ ReplyToClass (Granted k number a serial) ∷ back)
      (e : OpenRecord) (at : w.pending k.0 a.0 ≡ Some e) where
    abbrev pub told : View
    told = record w {
      mail = front ++ back;
      known = learning w.known k.0 e.request.wants;
      pending = put_at w.pending k.0 a.0 None;
    }

    abbrev is_granted : OpenRecord → Type 0
    is_granted f = In (grant_of f.request) w.trace

    replied : HasReplied w.pending k.0 number a.0 is_granted
    replied =
        let reply = ReplyToClass (Granted k number a serial) in
        h.books.mail reply (in_flight reply whole)

    in_trace : is_granted e
    in_trace = subst is_granted (same_Some replied.entry e (sym replied.is ∙ at)) replied.so

    used : (c : ℕ) → moved_in e.request.wants c ≤ u c
    used c =
        let moved = moved-used (λ c. base) w.trace (grant_of e.request) c in_trace in
        subst (λ (v : ℕ → ℕ). moved_in e.request.wants c ≤ v c) h.books.used_is moved

    owed : (n : Notify) → In n e.notifies → IsOwed w k.0 a.0 e n
    owed n tells = record { is = at; granted = in_trace; tells = tells }

    may_tell : (n : Notify) → In n e.notifies → MayTell p u s told n
    may_tell n tells =
        let awaits = h.numbers.owed k.0 a.0 e n (owed n tells) in
        let reply = ReplyToClass (Granted k number a serial) in
        let less = no_more (is_for n.comp.0) w.mail front back reply whole in
        let moved = (made_tells (h.locals.made k.0 a.0 e at) n tells).moved in
        record {
          granted = (grant_of e.request, in_trace, moved);
          awaited = awaits.0;
          leads = h.locals.owed k.0 a.0 e n (owed n tells);
          none = omega (arith, awaits.1, less);
        }

    -- a record that owes the same component is of the same grant, and gone
    no_other : (j b : ℕ) (f : OpenRecord) (x n : Notify) → IsOwed told j b f x → In n e.notifies
        → ¬ (n.comp.0 ≡ x.comp.0)
    no_other j b f x n o tells same =
        let (apart, there) = taken_at w.pending k.0 a.0 j b f o.is in
        let other = owed_in w there o.granted o in
        let mine = made_tells (h.locals.made k.0 a.0 e at) n tells in
        let yours = made_tells (h.locals.made j b f there) x o.tells in
        let awaits = (h.numbers.owed k.0 a.0 e n (owed n tells)).0 in
        let awaits_too = (h.numbers.owed j b f x other).0 in
        let same_number = awaits_too.own ∙ (ap w.number (sym same) ∙ sym awaits.own) in
        let v = mine.has in
        let moved = ap (moved_in e.request.wants) v.comp ∙ (mine.moved ∙ sym v.number) in
        let same_comp = ap (moved_in f.request.wants) (v.comp ∙ same) in
        let moved_too = same_comp ∙ (yours.moved ∙ (same_number ∙ sym v.number)) in
        let once = granted_once (λ c. base) w.trace (grant_of e.request) (grant_of f.request) in
        let grants = once v.want h.books.history in_trace o.granted v.among moved moved_too in
        let same_inter = ap (λ (g : Grant). g.inter.0) (sym grants) in
        let its = h.books.records k.0 a.0 e at in
        let others = h.books.records j b f there in
        let inters = sym others.number ∙ (same_inter ∙ its.number) in
        apart (sym others.home ∙ (ap (class_in p.classes) inters ∙ its.home)) inters

    -- what it tells is sent, and it is gone
    pub granted : AgreeAt p base u s
        (record told { mail = (front ++ back) ++ are_notified e.notifies })
    granted =
        sends_told unowed e.notifies may_tell (h.numbers.records k.0 a.0 e at).once no_other
      where
        now : learning w.known k.0 e.request.wants k.0 ≡ raised (w.known k.0) e.request.wants
        now = put_here w.known k.0 (raised (w.known k.0) e.request.wants)

        unowed : AgreeAt p base u s told
        unowed =
            unrecorded (ReplyToClass (Granted k number a serial)) whole (eq-eqb a.0 a.0 refl) at
            (learning w.known k.0 e.request.wants) (learns_more w.known k.0 e.request.wants)
            (learns_within w.known k.0 e.request.wants u h.books.at_most used)
            (λ _ c. omega (arith, ap (λ (v : ℕ → ℕ). v c) now))

  -- a refused record is dropped
  module _ (k : ClassId) (number : ℕ) (a : InterId) (c : CompId) (used : ℕ)
      (whole : w.mail ≡ front ++ ReplyToClass (Refused k number a c used) ∷ back)
      (e : OpenRecord) (at : w.pending k.0 a.0 ≡ Some e) where
    refused_reply : HasReplied w.pending k.0 number a.0 (IsDenied u w.trace c.0 used)
    refused_reply =
        let reply = ReplyToClass (Refused k number a c used) in
        h.books.mail reply (in_flight reply whole)

    refusal : IsDenied u w.trace c.0 used e
    refusal =
        let same = same_Some refused_reply.entry e (sym refused_reply.is ∙ at) in
        subst (IsDenied u w.trace c.0 used) same refused_reply.so

    -- the component that the refusal names is wanted
    pub was_wanted : Any (λ (v : Want). v.comp.0 ≡ c.0) e.request.wants
    was_wanted = let at = refusal.wanted in (at.0, at.1, at.2, at.3, at.4.0)

    -- and its used number is all that the class learns
    pub refused : (learnt : ℕ → ℕ) → ((b : ℕ) → w.known k.0 b ≤ learnt b)
        → ((b : ℕ) → learnt b ≤ max (w.known k.0 b) (cond (b == c.0) used 0))
        → AgreeAt p base u s
        (record w {
          mail = front ++ back;
          known = put w.known k.0 learnt;
          pending = put_at w.pending k.0 a.0 None;
        })
    refused learnt more taught =
        unrecorded (ReplyToClass (Refused k number a c used)) whole (eq-eqb a.0 a.0 refl) at
        (put w.known k.0 learnt)
        (all_put (λ j now. (b : ℕ) → w.known j b ≤ now b) w.known k.0 learnt
        more (λ j other b. omega arith))
        (all_put (λ j now. (b : ℕ) → now b ≤ u b) w.known k.0 learnt
        at_most (λ j other. h.books.at_most j))
        (λ granted. absurd (refusal.not_granted granted))
      where
        at_most : (b : ℕ) → learnt b ≤ u b
        at_most b = elim (cases_Bool (b == c.0)) [
          | inl its ↦
              let most = ap (λ (t : Bool). cond {A = ℕ} t used 0) its in
              let same = ap u (eqb-true b c.0 its) in
              omega (arith, taught b, h.books.at_most k.0 b, refusal.used_up, most, same)
          | inr other ↦
              let none = ap (λ (t : Bool). cond {A = ℕ} t used 0) other in
              omega (arith, taught b, h.books.at_most k.0 b, none)
        ]
