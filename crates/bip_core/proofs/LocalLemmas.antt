-- Each small step of a world keeps the local states: the components' agree with the state to which
-- the trace leads, and what is to come leads there. An event is a chain of such steps.
use Rattle.std.proofs.Common.{◌≡◌, ◌≢◌, ℕ, ◌+◌, ◌<◌, ◌≤◌, ◌⊎◌, List, [], ◌∷◌, ◌++◌, Bool, true}
use Rattle.std.proofs.Common.{Option, Some, sym, ap, ◌∙◌, subst, inl, inr, arith}
use Rattle.std.proofs.lemmas.Bool.{eq-eqb}
use Rattle.std.specs.Prelude.{IsSomeAnd}
use Rattle.bip_model.proofs.LawLemmas.{others_stay}
use Rattle.bip_model.specs.Grants.{used_by}
use Rattle.bip_model.specs.Messages.{Shows, ShowsState}
use Rattle.bip_model.specs.Numbering.{put}
use Rattle.bip_model.specs.Parties.{HasWantOf}
use Rattle.bip_model.specs.Parts.{IsSystem}
use Rattle.bip_model.specs.States.{State}
use Rattle.bip_model.specs.Steps.{after, moves, start_of}
use Rattle.bip_model.specs.Wants.{IsFresh, raised}
use Rattle.bip_model.specs.declared.grants.Grant.{Grant}
use Rattle.bip_model.specs.declared.messages.Notify.{Notify}
use Rattle.bip_model.specs.declared.messages.Offer.{Offer}
use Rattle.bip_model.specs.declared.messages.Request.{Request}
use Rattle.bip_model.specs.declared.parts.System.{System}
use Rattle.bip_model.specs.declared.states.LocalState.{LocalState}
use Rattle.bip_model.specs.declared.reasons.Why.{Why}
use Rattle.bip_model.specs.declared.wants.Want.{Want}
use Rattle.bip_bank.specs.Decisions.{grant_of}
use Rattle.bip_observe.specs.Laws.{AllShow}
use Rattle.bip_observe.proofs.ShowLemmas.{covered_there, ready_may_run}
use Rattle.bip_replay.specs.Runs.{HasNextNumber, IsNext}
use Rattle.bip_replay.proofs.RunLemmas.{IsRunFrom-push, end_of-push}
use Rattle.bip_ip.specs.Asking.{told_by}
use Rattle.bip_ip.specs.declared.nodes.OpenRecord.{OpenRecord}
use Rattle.bip_core.specs.declared.messages.Message.{Message}
use Rattle.bip_core.specs.declared.messages.Message.TheVariants.{NotifyComponent, OfferTo}
use Rattle.bip_core.specs.declared.messages.Message.TheVariants.{ReplyToClass, RequestToBank}
use Rattle.bip_core.specs.Lists.{In}
use Rattle.bip_core.specs.Numbers.{IsAwaited, MailAwaited, NumbersAgree, RecordNumbers}
use Rattle.bip_core.specs.Numbers.{is_for}
use Rattle.bip_core.specs.Locals.{Made, MailShows, LocalsAgree}
use Rattle.bip_core.specs.Sentences.{NobodyTells}
use Rattle.bip_core.specs.Views.{TakesTo, View, lead}
use Rattle.bip_core.proofs.ListLemmas.{All-each, count-some, each-All, in-one, in-split}
use Rattle.bip_core.proofs.NumberLemmas.{IsFreshGrant, Rests, grant_cases, owed_in}
use Rattle.bip_core.proofs.PutLemmas.{all_put, put_other}
use Rattle.bip_core.proofs.ToldLemmas.{TellsMove, tells_move, told_leads}
use Rattle.bip_core.proofs.WantLemmas.{want_of}

-- an offer shows a state that is the same at its component
pub shows_still : (m : System) (s t : State) (o : Offer) → t o.comp.0 ≡ s o.comp.0
    → ShowsState m s o → ShowsState m t o
shows_still m s t o same shows =
    subst (λ (local : Option LocalState). IsSomeAnd local (Shows m o)) (sym same) shows

-- the offers behind fresh wants show the state
pub shown : {m : System} {u : ℕ → ℕ} {s : State} {a : ℕ} {reasons : List Why} {wants : List Want}
    {ns : List Notify} (made : Made m u s a reasons wants ns) → IsFresh u wants
    → AllShow m made.offers (HasWantOf wants) s
shown {u = u} {wants = wants} made fresh c has =
    let its = want_of made.wants_are c has in
    let unused = All-each (λ (v : Want). u v.comp.0 < v.number) wants fresh its.want its.among in
    made.fit c has (omega (arith, unused, its.number, ap u its.comp))

-- what was made of offers tells what they told
made_told : {m : System} {u : ℕ → ℕ} {s : State} {a : ℕ} {reasons : List Why} {wants : List Want}
    {ns : List Notify} (made : Made m u s a reasons wants ns) (n : Notify) → In n ns
    → In n (told_by m made.offers a)
made_told made n at = subst (λ (xs : List Notify). In n xs) made.tells_are at

-- and that moves what they want to be moved
pub made_tells : {m : System} {u : ℕ → ℕ} {s : State} {a : ℕ} {reasons : List Why}
    {wants : List Want} {ns : List Notify} → Made m u s a reasons wants ns → (n : Notify) → In n ns
    → TellsMove m a wants n
made_tells made n at = tells_move made.wants_are n (made_told made n at)

-- a notification has the next number as its component's own, and leads it to this state
pub record LeadsNext (m : System) (u : ℕ → ℕ) (s : State) (w : View) (n : Notify) : Type 0 where
  pub own : n.number ≡ w.number n.comp.0
  pub next : w.number n.comp.0 ≡ u n.comp.0 + 1
  pub leads : TakesTo m n (w.state n.comp.0) (s n.comp.0)

module _ {m : System} {base : ℕ} {u : ℕ → ℕ} {s : State} {w : View}
    (h : LocalsAgree m base u s w) where
  -- messages are lost or taken out
  pub fewer : {mail : List Message} → ((x : Message) → In x mail → In x w.mail)
      → LocalsAgree m base u s (record w { mail = mail })
  fewer among = record {
    end_is = h.end_is;
    run = h.run;
    at_rest = h.at_rest;
    spent = h.spent;
    held = h.held;
    made = h.made;
    mail = λ x at. h.mail x (among x at);
    owed = λ k a e n o. h.owed k a e n (owed_in w o.is o.granted o);
  }

  -- messages are put last
  pub sent : (ms : List Message) → ((x : Message) → In x ms → MailShows m u s w.state x)
      → LocalsAgree m base u s (record w { mail = w.mail ++ ms })
  sent ms shows = record {
    end_is = h.end_is;
    run = h.run;
    at_rest = h.at_rest;
    spent = h.spent;
    held = h.held;
    made = h.made;
    mail = λ x at. elim (in-split x w.mail ms at) [
      | inl old ↦ h.mail x old
      | inr new ↦ shows x new
    ];
    owed = λ k a e n o. h.owed k a e n (owed_in w o.is o.granted o);
  }

  -- what the local states do not speak of
  pub elsewhere : {known : ℕ → ℕ → ℕ} {next : ℕ → ℕ} {used : ℕ → ℕ} {grants : List Grant}
      {waiting : ℕ → List Request}
      → LocalsAgree m base u s
      (record w { known = known; next = next; used = used; grants = grants; waiting = waiting })
  elsewhere = record {
    end_is = h.end_is;
    run = h.run;
    at_rest = h.at_rest;
    spent = h.spent;
    held = h.held;
    made = h.made;
    mail = h.mail;
    owed = λ k a e n o. h.owed k a e n (owed_in w o.is o.granted o);
  }

  -- a class holds another offer
  pub heard : {held : ℕ → ℕ → Option Offer}
      → ((k c : ℕ) (o : Offer) → held k c ≡ Some o → u o.comp.0 < o.number → ShowsState m s o)
      → LocalsAgree m base u s (record w { held = held })
  heard shows = record {
    end_is = h.end_is;
    run = h.run;
    at_rest = h.at_rest;
    spent = h.spent;
    made = h.made;
    mail = h.mail;
    held = shows;
    owed = λ k a e n o. h.owed k a e n (owed_in w o.is o.granted o);
  }

  -- a record goes
  pub removed : {pending : ℕ → ℕ → Option OpenRecord}
      → ((k a : ℕ) (e : OpenRecord) → pending k a ≡ Some e → w.pending k a ≡ Some e)
      → LocalsAgree m base u s (record w { pending = pending })
  removed left = record {
    end_is = h.end_is;
    run = h.run;
    at_rest = h.at_rest;
    spent = h.spent;
    held = h.held;
    mail = h.mail;
    owed = λ k a e n o.
        h.owed k a e n (owed_in w (left k a e o.is) o.granted o);
    made = λ k a e is. h.made k a e (left k a e is);
  }

  -- a record comes, not granted yet
  pub recorded : {pending : ℕ → ℕ → Option OpenRecord} (f : OpenRecord)
      → ((k a : ℕ) (e : OpenRecord) → pending k a ≡ Some e → (f ≡ e) ⊎ (w.pending k a ≡ Some e))
      → Made m u s f.request.inter.0 f.request.reasons f.request.wants f.notifies
      → ¬ In (grant_of f.request) w.trace
      → LocalsAgree m base u s (record w { pending = pending })
  recorded f cases made not_granted = record {
    end_is = h.end_is;
    run = h.run;
    at_rest = h.at_rest;
    spent = h.spent;
    held = h.held;
    mail = h.mail;
    made = λ k a e is. elim (cases k a e is) [
      | inl new ↦
          subst
          (λ (r : OpenRecord).
          Made m u s r.request.inter.0 r.request.reasons r.request.wants r.notifies)
          new made
      | inr old ↦ h.made k a e old
    ];
    owed = λ k a e n o. elim (cases k a e o.is) [
      | inl new ↦
          let in_trace : OpenRecord → Type 0 = λ r. In (grant_of r.request) w.trace in
          absurd (not_granted (subst in_trace (sym new) o.granted))
      | inr old ↦ h.owed k a e n (owed_in w old o.granted o)
    ];
  }

  -- a component moves by what it is told, where nobody is to tell it any more
  module _ (n : Notify) (nobody : NobodyTells w n.comp.0)
      (leads : lead m n (w.state n.comp.0) ≡ s n.comp.0) where
    abbrev pub moved_state : State
    moved_state = put w.state n.comp.0 (lead m n (w.state n.comp.0))

    leads_still : (x : Notify) → x.comp.0 ≢ n.comp.0
        → TakesTo m x (w.state x.comp.0) (s x.comp.0)
        → TakesTo m x (moved_state x.comp.0) (s x.comp.0)
    leads_still x other before =
        let same = put_other w.state n.comp.0 (lead m n (w.state n.comp.0)) x.comp.0 other in
        subst (λ (place : Option LocalState). TakesTo m x place (s x.comp.0)) (sym same) before

    mail_still : (x : Message) → In x w.mail → MailShows m u s w.state x
        → MailShows m u s moved_state x
    mail_still (NotifyComponent x) at before = leads_still x other before
      where
        other : x.comp.0 ≢ n.comp.0
        other same =
            let told = eq-eqb x.comp.0 n.comp.0 same in
            let some = count-some (is_for n.comp.0) (NotifyComponent x) w.mail at told in
            omega (arith, nobody.in_flight, some)
    mail_still (OfferTo k o) at shows = shows
    mail_still (RequestToBank q) at shows = tt
    mail_still (ReplyToClass r) at shows = tt

    -- so the local states are kept
    pub stepped : {number : ℕ → ℕ} {spent : ℕ → Bool}
        → ((d : ℕ) → d ≢ n.comp.0 → number d ≡ w.number d)
        → ((d : ℕ) → d ≢ n.comp.0 → spent d ≡ w.spent d)
        → LocalsAgree m base u s
        (record w { state = moved_state; number = number; spent = spent })
    stepped {number} {spent} same_number same_spent = record {
      end_is = h.end_is;
      run = h.run;
      held = h.held;
      made = h.made;
      at_rest =
          all_put (λ d local. number d ≡ u d + 1 → local ≡ s d) w.state n.comp.0
          (lead m n (w.state n.comp.0)) (λ _. leads)
          (λ d other is. h.at_rest d (sym (same_number d other) ∙ is));
      spent =
          all_put (λ d local. spent d ≡ true → local ≡ s d) w.state n.comp.0
          (lead m n (w.state n.comp.0)) (λ _. leads)
          (λ d other is. h.spent d (sym (same_spent d other) ∙ is));
      mail = λ x at. mail_still x at (h.mail x at);
      owed = λ k a e x o.
          let owes = owed_in w o.is o.granted o in
          leads_still x (nobody.owed k a e x owes) (h.owed k a e x owes);
    }

  module _ (valid : IsSystem m) (numbers : NumbersAgree m u w) where
    -- what fresh wants tell leads each component from where it is to where the joint step does
    pub fresh_leads : {a : ℕ} {reasons : List Why} {wants : List Want} {ns : List Notify}
        → Made m u s a reasons wants ns
        → IsFresh u wants → ((v : Want) → In v wants → v.number ≤ w.number v.comp.0)
        → (n : Notify) → In n ns → LeadsNext m u (after m s a) w n
    fresh_leads {a} {reasons} {wants} {ns} made fresh own n at =
        let its = (made_tells made n at).has in
        let each = All-each (λ (v : Want). u v.comp.0 < v.number) wants fresh in
        let unused = each its.want its.among in
        let least = own its.want its.among in
        let used_there = ap u its.comp in
        let number_there = ap w.number its.comp in
        let same = its.number in
        let high = numbers.high n.comp.0 in
        let next : w.number n.comp.0 ≡ u n.comp.0 + 1 = omega arith in
        record {
          own = omega arith;
          next = next;
          leads =
              subst (λ (place : Option LocalState). TakesTo m n place (after m s a n.comp.0))
              (sym (h.at_rest n.comp.0 next))
              (told_leads valid s made.ready (shown made fresh) n (made_told made n at));
        }

    -- a fresh grant joins the trace, of a request or of a decision on held offers
    module _ {g : Grant} {reasons : List Why} {told : List Notify}
        (its : IsFreshGrant m u w.number g) (used_is : used_by (λ c. base) w.trace ≡ u)
        (made : Made m u s g.inter.0 reasons g.wants told) where
      abbrev pub next_state : State
      next_state = after m s g.inter.0

      still : (c : ℕ) → Rests m u g c → next_state c ≡ s c
      still c rests = others_stay m s g.inter.0 c rests.unmoved

      next_number : (v : Want) → In v g.wants → HasNextNumber u v
      next_number v at =
          let unused = All-each (λ (x : Want). u x.comp.0 < x.number) g.wants its.fresh v at in
          let own = its.own v at in
          let high = numbers.high v.comp.0 in
          let limit = numbers.limit v.comp.0 in
          record { next = omega arith; fits = omega arith }

      next : IsNext m s u g
      next = record {
        may =
            ready_may_run m made.offers (HasWantOf g.wants) s g.inter.0 made.ready
            (shown made its.fresh);
        numbers = each-All (HasNextNumber u) g.wants next_number;
        parties = its.parties;
        covered = λ b above.
            covered_there m made.offers g.wants s b made.ready.own (shown made its.fresh)
            (made.ready.clear b above);
      }

      -- an offer whose number isn't used yet is of a component that rests
      offer_after : (o : Offer) → o.number ≤ w.number o.comp.0
          → (u o.comp.0 < o.number → ShowsState m s o) → raised u g.wants o.comp.0 < o.number
          → ShowsState m next_state o
      offer_after o within before unused = elim (grant_cases numbers its o.comp.0) [
        | inl moves ↦ absurd (omega (arith, moves.used))
        | inr rests ↦
            shows_still m s next_state o (still o.comp.0 rests)
            (before (omega (arith, unused, rests.used)))
      ]

      -- and so is what was told before
      told_after : (n : Notify) → IsAwaited u w.number w.spent n
          → TakesTo m n (w.state n.comp.0) (s n.comp.0)
          → TakesTo m n (w.state n.comp.0) (next_state n.comp.0)
      told_after n awaited before = elim (grant_cases numbers its n.comp.0) [
        | inl moves ↦ absurd (omega (arith, moves.next, awaited.used))
        | inr rests ↦
            subst (TakesTo m n (w.state n.comp.0)) (sym (still n.comp.0 rests)) before
      ]

      mail_after : (x : Message) → MailAwaited u w.number w.spent x → MailShows m u s w.state x
          → MailShows m (raised u g.wants) next_state w.state x
      mail_after (NotifyComponent n) awaited before = told_after n awaited before
      mail_after (OfferTo k o) within before = offer_after o within before
      mail_after (RequestToBank q) awaited before = tt
      mail_after (ReplyToClass r) awaited before = tt

      made_after : (e : OpenRecord) → RecordNumbers m w.number e
          → Made m u s e.request.inter.0 e.request.reasons e.request.wants e.notifies
          → Made m (raised u g.wants) next_state e.request.inter.0 e.request.reasons
          e.request.wants e.notifies
      made_after e kept by = record {
        offers = by.offers;
        so = by.so;
        ready = by.ready;
        wants_are = by.wants_are;
        tells_are = by.tells_are;
        fit = λ c has unused.
            let wants = want_of by.wants_are c has in
            let within = kept.wants wants.want wants.among in
            let number_there = ap w.number wants.comp in
            let number = wants.number in
            let own : (by.offers c).comp.0 ≡ c = by.ready.own c has in
            elim (grant_cases numbers its c) [
              | inl moves ↦ absurd (omega (arith, moves.used))
              | inr rests ↦
                  shows_still m s next_state (by.offers c)
                  (ap next_state own ∙ (still c rests ∙ ap s (sym own)))
                  (by.fit c has (omega (arith, rests.used)))
            ];
      }

      -- what its record tells leads to where it does
      owed_now : (k a : ℕ) (e : OpenRecord) (n : Notify) → w.pending k a ≡ Some e
          → grant_of e.request ≡ g → In n e.notifies
          → TakesTo m n (w.state n.comp.0) (next_state n.comp.0)
      owed_now k a e n is same at =
          let fresh = subst (λ (x : Grant). IsFresh u x.wants) (sym same) its.fresh in
          let kept = numbers.records k a e is in
          let next = fresh_leads (h.made k a e is) fresh kept.wants n at in
          subst (TakesTo m n (w.state n.comp.0))
          (ap (λ (x : Grant). after m s x.inter.0 n.comp.0) same) next.leads

      -- so the local states are kept, at the state after the joint step
      pub granted : LocalsAgree m base (raised u g.wants) next_state
          (record w { trace = w.trace ++ g ∷ [] })
      granted = record {
        end_is =
            end_of-push m (start_of m) w.trace g ∙ ap (λ (t : State). after m t g.inter.0) h.end_is;
        run =
            IsRunFrom-push m (start_of m) (λ c. base) w.trace g h.run
            (subst (λ (t : State). IsNext m t (used_by (λ c. base) w.trace) g) (sym h.end_is)
            (subst (λ (v : ℕ → ℕ). IsNext m s v g) (sym used_is) next));
        at_rest = λ c is. elim (grant_cases numbers its c) [
          | inl moves ↦ absurd (omega (arith, is, moves.used))
          | inr rests ↦ h.at_rest c (omega (arith, is, rests.used)) ∙ sym (still c rests)
        ];
        spent = λ c is. elim (grant_cases numbers its c) [
          | inl moves ↦ absurd (omega (arith, moves.next, (numbers.spent c is).0))
          | inr rests ↦ h.spent c is ∙ sym (still c rests)
        ];
        mail = λ x at. mail_after x (numbers.mail x at) (h.mail x at);
        held = λ k c o is unused.
            let (own, within) = numbers.held k c o is in
            offer_after o (omega (arith, within, ap w.number own)) (h.held k c o is) unused;
        owed = λ k a e n o. elim (in-split (grant_of e.request) w.trace (g ∷ []) o.granted) [
          | inl old ↦
              let owes = owed_in w o.is old o in
              told_after n (numbers.owed k a e n owes).0 (h.owed k a e n owes)
          | inr new ↦ owed_now k a e n o.is (in-one (grant_of e.request) g new) o.tells
        ];
        made = λ k a e is. made_after e (numbers.records k a e is) (h.made k a e is);
      }
