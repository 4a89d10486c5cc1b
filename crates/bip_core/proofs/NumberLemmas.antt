-- Each small step of a world keeps the numbers: the components' own ones agree with the used ones,
-- and what tells a component to move is awaited. An event is a chain of such steps.
use Rattle.std.proofs.Common.{◌≡◌, ◌≢◌, ℕ, ◌+◌, ◌<◌, ◌≤◌, ◌⊎◌, List, [], ◌∷◌, ◌++◌, Bool, true}
use Rattle.std.proofs.Common.{false, Option, Some, sym, ap, ◌∙◌, subst, inl, inr, arith}
use Rattle.std.proofs.lemmas.Bool.{cases_Bool, eq-eqb, eqb-true, true≢false, false_from_ne_true}
use Rattle.bip_model.specs.Numbering.{last_number, put}
use Rattle.bip_model.specs.Parties.{AreParties}
use Rattle.bip_model.specs.States.{State}
use Rattle.bip_model.specs.Steps.{moves}
use Rattle.bip_model.specs.Wants.{IsFresh, moved_in, raised}
use Rattle.bip_model.specs.declared.grants.Grant.{Grant}
use Rattle.bip_model.specs.declared.messages.Notify.{Notify}
use Rattle.bip_model.specs.declared.messages.Offer.{Offer}
use Rattle.bip_model.specs.declared.messages.Request.{Request}
use Rattle.bip_model.specs.declared.parts.System.{System}
use Rattle.bip_model.specs.declared.wants.Want.{Want}
use Rattle.bip_bank.specs.Decisions.{grant_of}
use Rattle.bip_ip.specs.declared.nodes.OpenRecord.{OpenRecord}
use Rattle.bip_core.specs.declared.messages.Message.{Message}
use Rattle.bip_core.specs.declared.messages.Message.TheVariants.{NotifyComponent, OfferTo}
use Rattle.bip_core.specs.declared.messages.Message.TheVariants.{ReplyToClass, RequestToBank}
use Rattle.bip_core.specs.Lists.{In, count}
use Rattle.bip_core.specs.Numbers.{IsAwaited, IsOwed, MailAwaited, NumbersAgree, RecordNumbers}
use Rattle.bip_core.specs.Numbers.{is_for}
use Rattle.bip_core.specs.Sentences.{NobodyTells}
use Rattle.bip_core.specs.Views.{View}
use Rattle.bip_core.proofs.ListLemmas.{All-each, count-append, count-none, count-some, in-one}
use Rattle.bip_core.proofs.ListLemmas.{in-split}
use Rattle.bip_core.proofs.PutLemmas.{all_put, put_other}
use Rattle.bip_core.proofs.WantLemmas.{moved_so, unmoved_so, wanted}

-- a fresh grant of parties wants nothing above the components' own numbers
pub record IsFreshGrant (m : System) (u : ℕ → ℕ) (number : ℕ → ℕ) (g : Grant) : Type 0 where
  pub fresh : IsFresh u g.wants
  pub parties : AreParties m g.inter.0 g.wants
  pub own : (v : Want) → In v g.wants → v.number ≤ number v.comp.0

-- what it moves has the next number as its own, and that is used then
pub record MovesOn (m : System) (u : ℕ → ℕ) (number : ℕ → ℕ) (g : Grant) (c : ℕ) : Type 0 where
  pub moved : moves m g.inter.0 c ≡ true
  pub next : number c ≡ u c + 1
  pub used : raised u g.wants c ≡ number c

-- and of every other component the used number stays
pub record Rests (m : System) (u : ℕ → ℕ) (g : Grant) (c : ℕ) : Type 0 where
  pub unmoved : moves m g.inter.0 c ≡ false
  pub used : raised u g.wants c ≡ u c

-- what is owed in a view is owed in another that has the record and the grant too
pub owed_in : (w : View) {v : View} {k a : ℕ} {e : OpenRecord} {n : Notify}
    → w.pending k a ≡ Some e → In (grant_of e.request) w.trace → IsOwed v k a e n
    → IsOwed w k a e n
owed_in w is granted owed = record { is = is; granted = granted; tells = owed.tells }

module _ {m : System} {u : ℕ → ℕ} {w : View} (h : NumbersAgree m u w) where
  -- messages are lost or taken out
  pub fewer : {mail : List Message} → ((x : Message) → In x mail → In x w.mail)
      → ((c : ℕ) → count (is_for c) mail ≤ count (is_for c) w.mail)
      → NumbersAgree m u (record w { mail = mail })
  fewer among less = record {
    low = h.low;
    high = h.high;
    limit = h.limit;
    spent = h.spent;
    held = h.held;
    records = h.records;
    mail = λ x at. h.mail x (among x at);
    once = λ c. omega (arith, less c, h.once c);
    owed = λ k a e n o.
        let before = h.owed k a e n (owed_in w o.is o.granted o) in
        (before.0, omega (arith, less n.comp.0, before.1));
  }

  -- messages are put last
  pub sent : (ms : List Message) → ((x : Message) → In x ms → MailAwaited u w.number w.spent x)
      → ((c : ℕ) → count (is_for c) w.mail + count (is_for c) ms ≤ 1)
      → ((k a : ℕ) (e : OpenRecord) (n : Notify) → IsOwed w k a e n
      → count (is_for n.comp.0) ms ≡ 0)
      → NumbersAgree m u (record w { mail = w.mail ++ ms })
  sent ms awaited once free = record {
    low = h.low;
    high = h.high;
    limit = h.limit;
    spent = h.spent;
    held = h.held;
    records = h.records;
    mail = λ x at. elim (in-split x w.mail ms at) [
      | inl old ↦ h.mail x old
      | inr new ↦ awaited x new
    ];
    once = λ c. omega (arith, once c, count-append (is_for c) w.mail ms);
    owed = λ k a e n o.
        let owes = owed_in w o.is o.granted o in
        let before = h.owed k a e n owes in
        let both = count-append (is_for n.comp.0) w.mail ms in
        (before.0, omega (arith, free k a e n owes, before.1, both));
  }

  -- what the numbers do not speak of
  pub elsewhere : {state : State} {known : ℕ → ℕ → ℕ} {next : ℕ → ℕ} {used : ℕ → ℕ}
      {grants : List Grant} {waiting : ℕ → List Request}
      → NumbersAgree m u
      (record w {
        state = state;
        known = known;
        next = next;
        used = used;
        grants = grants;
        waiting = waiting;
      })
  elsewhere = record {
    low = h.low;
    high = h.high;
    limit = h.limit;
    spent = h.spent;
    held = h.held;
    records = h.records;
    mail = h.mail;
    once = h.once;
    owed = λ k a e n o. h.owed k a e n (owed_in w o.is o.granted o);
  }

  -- a class holds another offer
  pub heard : {held : ℕ → ℕ → Option Offer}
      → ((k c : ℕ) (o : Offer) → held k c ≡ Some o → (o.comp.0 ≡ c) × (o.number ≤ w.number c))
      → NumbersAgree m u (record w { held = held })
  heard fits = record {
    low = h.low;
    high = h.high;
    limit = h.limit;
    spent = h.spent;
    records = h.records;
    mail = h.mail;
    once = h.once;
    held = fits;
    owed = λ k a e n o. h.owed k a e n (owed_in w o.is o.granted o);
  }

  -- a record goes
  pub removed : {pending : ℕ → ℕ → Option OpenRecord}
      → ((k a : ℕ) (e : OpenRecord) → pending k a ≡ Some e → w.pending k a ≡ Some e)
      → NumbersAgree m u (record w { pending = pending })
  removed left = record {
    low = h.low;
    high = h.high;
    limit = h.limit;
    spent = h.spent;
    held = h.held;
    mail = h.mail;
    once = h.once;
    records = λ k a e is. h.records k a e (left k a e is);
    owed = λ k a e n o.
        h.owed k a e n (owed_in w (left k a e o.is) o.granted o);
  }

  -- a record comes, not granted yet
  pub recorded : {pending : ℕ → ℕ → Option OpenRecord} (f : OpenRecord)
      → ((k a : ℕ) (e : OpenRecord) → pending k a ≡ Some e → (f ≡ e) ⊎ (w.pending k a ≡ Some e))
      → RecordNumbers m w.number f → ¬ In (grant_of f.request) w.trace
      → NumbersAgree m u (record w { pending = pending })
  recorded f cases fits not_granted = record {
    low = h.low;
    high = h.high;
    limit = h.limit;
    spent = h.spent;
    held = h.held;
    mail = h.mail;
    once = h.once;
    records = λ k a e is. elim (cases k a e is) [
      | inl new ↦ subst (RecordNumbers m w.number) new fits
      | inr old ↦ h.records k a e old
    ];
    owed = λ k a e n o. elim (cases k a e o.is) [
      | inl new ↦
          let in_trace : OpenRecord → Type 0 = λ r. In (grant_of r.request) w.trace in
          absurd (not_granted (subst in_trace (sym new) o.granted))
      | inr old ↦ h.owed k a e n (owed_in w old o.granted o)
    ];
  }

  -- nothing is on its way for a component whose number isn't used
  pub quiet : (c : ℕ) → u c < w.number c → count (is_for c) w.mail ≡ 0
  quiet c unused = count-none (is_for c) w.mail not_for_it
    where
      not_for_it : (x : Message) → In x w.mail → ¬ (is_for c x ≡ true)
      not_for_it (NotifyComponent n) at is =
          let own = eqb-true n.comp.0 c is in
          let used = (h.mail (NotifyComponent n) at).used in
          omega (arith, unused, used, ap w.number own, ap u own)
      not_for_it (RequestToBank q) at is = true≢false (sym is)
      not_for_it (ReplyToClass r) at is = true≢false (sym is)
      not_for_it (OfferTo k o) at is = true≢false (sym is)

  -- a grant joins the trace
  module _ {g : Grant} (its : IsFreshGrant m u w.number g) where
    -- what it wants has the next number
    wants_next : (v : Want) (c : ℕ) → In v g.wants → v.comp.0 ≡ c
        → (v.number ≡ u c + 1) × (w.number c ≡ u c + 1)
    wants_next v c at comp =
        let fresh = All-each (λ (x : Want). u x.comp.0 < x.number) g.wants its.fresh v at in
        let own = its.own v at in
        let used_there = ap u comp in
        let number_there = ap w.number comp in
        let high = h.high c in
        (omega arith, omega arith)

    moved : (c : ℕ) → moves m g.inter.0 c ≡ true → moved_in g.wants c ≡ u c + 1
    moved c on =
        moved_so its.parties c (u c + 1) on (λ v at same. (wants_next v c at same).0)

    -- each component moves on or rests
    pub grant_cases : (c : ℕ) → MovesOn m u w.number g c ⊎ Rests m u g c
    grant_cases c = elim (cases_Bool (moves m g.inter.0 c)) [
      | inl on ↦
          let (v, at, comp) = wanted its.parties c on in
          let next = (wants_next v c at comp).1 in
          inl (record { moved = on; next = next; used = omega (arith, next, moved c on) })
      | inr off ↦
          let none = unmoved_so its.parties c off in
          inr (record { unmoved = off; used = omega arith })
    ]

    awaited_after : (n : Notify) → IsAwaited u w.number w.spent n
        → IsAwaited (raised u g.wants) w.number w.spent n
    awaited_after n awaited = record {
      own = awaited.own;
      unspent = awaited.unspent;
      used = elim (grant_cases n.comp.0) [
        | inl moves ↦ absurd (omega (arith, awaited.used, moves.next))
        | inr rests ↦ awaited.used ∙ sym rests.used
      ];
    }

    mail_after : (x : Message) → MailAwaited u w.number w.spent x
        → MailAwaited (raised u g.wants) w.number w.spent x
    mail_after (NotifyComponent n) awaited = awaited_after n awaited
    mail_after (OfferTo k o) within = within
    mail_after (RequestToBank q) awaited = tt
    mail_after (ReplyToClass r) awaited = tt

    -- what its record tells is owed now
    owed_now : (e : OpenRecord) (n : Notify) → RecordNumbers m w.number e
        → grant_of e.request ≡ g → In n e.notifies
        → IsAwaited (raised u g.wants) w.number w.spent n × (count (is_for n.comp.0) w.mail ≡ 0)
    owed_now e n numbers same told =
        let inters = ap (λ (x : Grant). moves m x.inter.0 n.comp.0) same in
        let (v, among, comp, number) = numbers.same n told in
        let wants : In v g.wants = subst (λ (x : Grant). In v x.wants) same among in
        let next = wants_next v n.comp.0 wants comp in
        elim (grant_cases n.comp.0) [
          | inl moves ↦ (
            record {
              own = omega (arith, next.0, next.1, number);
              used = sym moves.used;
              unspent =
                  false_from_ne_true (w.spent n.comp.0)
                  (λ spent. omega (arith, next.1, (h.spent n.comp.0 spent).0));
            },
            quiet n.comp.0 (omega (arith, next.1)),
          )
          | inr rests ↦ absurd (true≢false (sym (numbers.tells n told) ∙ (inters ∙ rests.unmoved)))
        ]

    -- so the numbers are kept, with what it moved used
    pub granted : NumbersAgree m (raised u g.wants) (record w { trace = w.trace ++ g ∷ [] })
    granted = record {
      low = λ c. elim (grant_cases c) [
        | inl moves ↦ omega (arith, moves.used)
        | inr rests ↦ omega (arith, rests.used, h.low c)
      ];
      high = λ c. omega (arith, h.high c);
      limit = h.limit;
      held = h.held;
      records = h.records;
      once = h.once;
      spent = λ c is. let before = h.spent c is in elim (grant_cases c) [
        | inl moves ↦ absurd (omega (arith, before.0, moves.next))
        | inr rests ↦
            (omega (arith, before.0, rests.used), omega (arith, before.1, rests.used))
      ];
      mail = λ x at. mail_after x (h.mail x at);
      owed = λ k a e n o. elim (in-split (grant_of e.request) w.trace (g ∷ []) o.granted) [
        | inl old ↦
            let owes = h.owed k a e n (owed_in w o.is old o) in
            (awaited_after n owes.0, owes.1)
        | inr new ↦
            owed_now e n (h.records k a e o.is) (in-one (grant_of e.request) g new) o.tells
      ];
    }

  -- a component moves that nobody is to tell any more
  module _ {c : ℕ} (used : w.number c ≡ u c) (nobody : NobodyTells w c) where
    not_its_own : (n : Notify) → In (NotifyComponent n) w.mail → n.comp.0 ≢ c
    not_its_own n at own =
        let some = count-some (is_for c) (NotifyComponent n) w.mail at (eq-eqb n.comp.0 c own) in
        omega (arith, nobody.in_flight, some)

    -- it goes on to the next number
    module _ (unspent : w.spent c ≡ false) (room : w.number c < last_number) where
      abbrev later : ℕ → ℕ
      later = put w.number c (w.number c + 1)

      grows : (d : ℕ) → w.number d ≤ later d
      grows = all_put (λ d n. w.number d ≤ n) w.number c (w.number c + 1)
          (omega arith) (λ d other. omega arith)

      step_awaited : (n : Notify) → n.comp.0 ≢ c → IsAwaited u w.number w.spent n
          → IsAwaited u later w.spent n
      step_awaited n other awaited =
          let same = put_other w.number c (w.number c + 1) n.comp.0 other in
          record {
            own = awaited.own ∙ sym same;
            used = same ∙ awaited.used;
            unspent = awaited.unspent;
          }

      step_mail : (x : Message) → In x w.mail → MailAwaited u w.number w.spent x
          → MailAwaited u later w.spent x
      step_mail (NotifyComponent n) at awaited = step_awaited n (not_its_own n at) awaited
      step_mail (OfferTo k o) at within = omega (arith, within, grows o.comp.0)
      step_mail (RequestToBank q) at awaited = tt
      step_mail (ReplyToClass r) at awaited = tt

      -- so the numbers are kept
      pub stepped : NumbersAgree m u (record w { number = later })
      stepped = record {
        once = h.once;
        low = λ d. omega (arith, h.low d, grows d);
        high = all_put (λ d n. n ≤ u d + 1) w.number c (w.number c + 1)
            (omega arith) (λ d other. h.high d);
        limit = all_put (λ d n. n ≤ last_number) w.number c (w.number c + 1)
            (omega arith) (λ d other. h.limit d);
        spent =
            all_put (λ d n. w.spent d ≡ true → (n ≡ u d) × (u d ≡ last_number)) w.number c
            (w.number c + 1)
            (λ spent. absurd (true≢false (sym spent ∙ unspent))) (λ d other. h.spent d);
        mail = λ x at. step_mail x at (h.mail x at);
        held = λ k d o is.
            let before = h.held k d o is in
            (before.0, omega (arith, before.1, grows d));
        records = λ k a e is. let its = h.records k a e is in record {
          wants = λ v at. omega (arith, its.wants v at, grows v.comp.0);
          tells = its.tells;
          same = its.same;
          once = its.once;
        };
        owed = λ k a e n o.
            let owes = owed_in w o.is o.granted o in
            let before = h.owed k a e n owes in
            (step_awaited n (nobody.owed k a e n owes) before.0, before.1);
      }

    -- or it has the last number, and is spent
    module _ (last : w.number c ≡ last_number) where
      abbrev spent_too : ℕ → Bool
      spent_too = put w.spent c true

      end_awaited : (n : Notify) → n.comp.0 ≢ c → IsAwaited u w.number w.spent n
          → IsAwaited u w.number spent_too n
      end_awaited n other awaited = record {
        own = awaited.own;
        used = awaited.used;
        unspent = put_other w.spent c true n.comp.0 other ∙ awaited.unspent;
      }

      end_mail : (x : Message) → In x w.mail → MailAwaited u w.number w.spent x
          → MailAwaited u w.number spent_too x
      end_mail (NotifyComponent n) at awaited = end_awaited n (not_its_own n at) awaited
      end_mail (OfferTo k o) at within = within
      end_mail (RequestToBank q) at awaited = tt
      end_mail (ReplyToClass r) at awaited = tt

      -- so the numbers are kept, with it among the spent
      pub ended : NumbersAgree m u (record w { spent = spent_too })
      ended = record {
        once = h.once;
        low = h.low;
        high = h.high;
        limit = h.limit;
        held = h.held;
        records = h.records;
        spent =
            all_put (λ d is. is ≡ true → (w.number d ≡ u d) × (u d ≡ last_number)) w.spent c true
            (λ _. (used, sym used ∙ last)) (λ d other. h.spent d);
        mail = λ x at. end_mail x at (h.mail x at);
        owed = λ k a e n o.
            let owes = owed_in w o.is o.granted o in
            let before = h.owed k a e n owes in
            (end_awaited n (nobody.owed k a e n owes) before.0, before.1);
      }
