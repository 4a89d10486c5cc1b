-- A component moves by a notification, of which copies may be left: none of these has its number
-- then, or it is spent.
use Rattle.std.proofs.Common.{◌≡◌, ◌≢◌, ℕ, ◌+◌, ◌<◌, ◌≤◌, List, [], ◌∷◌, ◌++◌, Bool, Option, true}
use Rattle.std.proofs.Common.{false, refl, sym, ap, ◌∙◌, subst, inl, inr, arith}
use Rattle.std.proofs.lemmas.Bool.{cases_eq, true≢false}
use Rattle.bip_model.specs.Messages.{ShowsState}
use Rattle.bip_model.specs.Numbering.{last_number, put}
use Rattle.bip_model.specs.States.{State}
use Rattle.bip_model.specs.Wants.{moved_in}
use Rattle.bip_model.specs.declared.grants.Grant.{Grant}
use Rattle.bip_model.specs.declared.messages.Notify.{Notify}
use Rattle.bip_model.specs.declared.messages.Offer.{Offer}
use Rattle.bip_model.specs.declared.messages.Reply.TheVariants.{Granted, Refused}
use Rattle.bip_model.specs.declared.messages.Request.{Request}
use Rattle.bip_model.specs.declared.numbering.ClassId.{ClassId}
use Rattle.bip_model.specs.declared.states.LocalState.{LocalState}
use Rattle.bip_partition.specs.Plans.{Planned}
use Rattle.bip_ip.specs.declared.nodes.OpenRecord.{OpenRecord}
use Rattle.bip_core.specs.Agreement.{AgreeAt}
use Rattle.bip_core.specs.Books.{BooksAgree}
use Rattle.bip_core.specs.Doubled.{AgreeWithCopiesAt, MessageHolds, NotifyHolds, RequestHolds}
use Rattle.bip_core.specs.Doubled.{without_mail}
use Rattle.bip_core.specs.Events.{are_notified}
use Rattle.bip_core.specs.Lists.{In}
use Rattle.bip_core.specs.Numbers.{IsOwed}
use Rattle.bip_core.specs.Views.{TakesTo, View, lead}
use Rattle.bip_core.specs.declared.messages.Message.{Message}
use Rattle.bip_core.specs.declared.messages.Message.TheVariants.{NotifyComponent, OfferTo}
use Rattle.bip_core.specs.declared.messages.Message.TheVariants.{ReplyToClass, RequestToBank}
use Rattle.bip_core.proofs.DeliveryLemmas as deliveries
use Rattle.bip_core.proofs.DoubledLemmas.{joins, used_by_trace, was_in_flight, was_left}
use Rattle.bip_core.proofs.ListLemmas.{count-one, in-one, in-split}
use Rattle.bip_core.proofs.MailLemmas.{MayTell, offers_to, sends_told}
use Rattle.bip_core.proofs.NumberLemmas.{owed_in}
use Rattle.bip_core.proofs.PutLemmas.{all_put, put_here, put_other}
use Rattle.bip_core.proofs.StepLemmas.{IsTaken, led_by_it}
use Rattle.bip_core.proofs.ToldLemmas.{is_told}

-- a notification of a grant has a number that is used
pub told_used : {p : Planned} {base : ℕ} {u : ℕ → ℕ} {w : View} → BooksAgree p base u w
    → (x : Notify) → (g : Grant) × In g w.trace × (moved_in g.wants x.comp.0 ≡ x.number)
    → x.number ≤ u x.comp.0
told_used h x of_grant =
    omega (arith, used_by_trace h of_grant.0 of_grant.1 x.comp.0, of_grant.2)

-- a component has another state, number, or is spent: no notification that is used has its number
-- then, or it is spent
record HasMoved (u : ℕ → ℕ) (w : View) (c : ℕ) (state : State) (number : ℕ → ℕ) (spent : ℕ → Bool)
    : Type 0 where
  state_else : (d : ℕ) → d ≢ c → state d ≡ w.state d
  number_else : (d : ℕ) → d ≢ c → number d ≡ w.number d
  spent_else : (d : ℕ) → d ≢ c → spent d ≡ w.spent d
  more : (d : ℕ) → w.number d ≤ number d
  past : (n : ℕ) → n ≤ u c → spent c ≡ false → n ≢ number c

module _ {p : Planned} {base : ℕ} {u : ℕ → ℕ} (s : State) {w : View}
    (books : BooksAgree p base u (without_mail u w)) (c : ℕ) (state : State) (number : ℕ → ℕ)
    (spent : ℕ → Bool) (has_moved : HasMoved u w c state number spent) (mail : List Message) where
  abbrev moved : View
  moved = record (without_mail u w) {
    state = state;
    number = number;
    spent = spent;
    mail = mail;
  }

  moved_request : (q : Request) → RequestHolds p u w q → RequestHolds p u moved q
  moved_request q r = record { fit = r.fit; made = r.made; same = r.same; has = r.has }

  -- what held still holds
  moved_message : (m : Message) → MessageHolds p u s w m → MessageHolds p u s moved m
  moved_message (RequestToBank q) r = moved_request q r
  moved_message (ReplyToClass (Granted k n a serial)) r = record { made = r.made; so = r.so }
  moved_message (ReplyToClass (Refused k n a d x)) r =
      (r.0, record { made = r.1.made; so = r.1.so })
  moved_message (OfferTo k o) r =
      record { within = omega (arith, r.within, has_moved.more o.comp.0); shows = r.shows }
  moved_message (NotifyComponent x) r = record {
    of_grant = r.of_grant;
    not_owed = λ k a e y o. r.not_owed k a e y (owed_in w o.is o.granted o);
    leads = λ unspent same. elim (cases_eq x.comp.0 c) [
      | inl is ↦
          let used = told_used books x r.of_grant in
          let low : x.number ≤ u c = omega (arith, used, ap u is) in
          absurd (has_moved.past x.number low (sym (ap spent is) ∙ unspent) (same ∙ ap number is))
      | inr other ↦
          subst (λ (l : Option LocalState). TakesTo p.model x l (s x.comp.0))
          (sym (has_moved.state_else x.comp.0 other))
          (r.leads (sym (has_moved.spent_else x.comp.0 other) ∙ unspent)
          (same ∙ has_moved.number_else x.comp.0 other))
    ];
  }

-- a component takes a notification that is in flight, of its own number
module _ {p : Planned} {base : ℕ} {u : ℕ → ℕ} {s : State} {w : View}
    (h : AgreeWithCopiesAt p base u s w) (front back : List Message) (n : Notify)
    (whole : IsTaken w front back (NotifyComponent n)) (unspent : w.spent n.comp.0 ≡ false)
    (own : n.number ≡ w.number n.comp.0) where
  holds : NotifyHolds p.model s w n
  holds = h.mail (NotifyComponent n) (was_in_flight w front back (NotifyComponent n) whole)

  -- its number is the used one
  used : w.number n.comp.0 ≡ u n.comp.0
  used =
      omega (arith, told_used h.rest.books n holds.of_grant, h.rest.numbers.low n.comp.0, own)

  -- without its mail the world agrees still where this one notification is in flight
  told : AgreeAt p base u s
      (record (without_mail u w) { mail = [] ++ are_notified (n ∷ []) })
  told =
      sends_told h.rest (n ∷ [])
      (λ x at. subst (MayTell p u s (without_mail u w)) (sym (in-one x n at)) may)
      (λ c. count-one (is_told c) n)
      (λ k a e x y owed at. subst (λ (z : Notify). ¬ (z.comp.0 ≡ x.comp.0)) (sym (in-one y n at))
      (not_owed k a e x owed))
    where
      may : MayTell p u s (without_mail u w) n
      may = record {
        granted = holds.of_grant;
        awaited = record { own = own; used = used; unspent = unspent };
        leads = holds.leads unspent own;
        none = refl;
      }

      not_owed : (k a : ℕ) (e : OpenRecord) (x : Notify) → IsOwed (without_mail u w) k a e x
          → ¬ (n.comp.0 ≡ x.comp.0)
      not_owed k a e x owed same =
          let its = (h.rest.numbers.owed k a e x owed).0.own in
          holds.not_owed k a e x (owed_in w owed.is owed.granted owed) (sym same)
          (its ∙ (ap w.number (sym same) ∙ sym own))

  abbrev later : ℕ → ℕ
  later = put w.number n.comp.0 (w.number n.comp.0 + 1)

  abbrev gone : ℕ → Bool
  gone = put w.spent n.comp.0 true

  left : (m : Message) → In m (front ++ back) → In m w.mail
  left = was_left w front back (NotifyComponent n) whole

  -- it goes on to the next number, and offers its next move
  pub moved_on_too : (ks : List ClassId) (o : Offer) → w.number n.comp.0 < last_number
      → o.comp.0 ≡ n.comp.0 → o.number ≡ w.number n.comp.0 + 1
      → ShowsState p.model (led_by_it p w n) o
      → AgreeWithCopiesAt p base u s
      (record w {
        state = led_by_it p w n;
        number = put w.number n.comp.0 (w.number n.comp.0 + 1);
        mail = (front ++ back) ++ offers_to ks o;
      })
  moved_on_too ks o room comp number shows =
      joins (deliveries.moved_on told [] [] n refl ks o room comp number shows) w.known
      ((front ++ back) ++ offers_to ks o) w.waiting h.at_most h.alone h.own
      (λ m at. elim (in-split m (front ++ back) (offers_to ks o) at) [
        | inl old ↦
            inr (moved_message s h.rest.books n.comp.0 (led_by_it p w n) later w.spent on
            (offers_to ks o) m (h.mail m (left m old)))
        | inr new ↦ inl new
      ])
      (λ a q at.
      let (opens, home) = h.waiting a q at in (
        moved_request s h.rest.books n.comp.0 (led_by_it p w n) later w.spent on (offers_to ks o) q
            opens,
        home,
      ))
    where
      on : HasMoved u w n.comp.0 (led_by_it p w n) later w.spent
      on = record {
        state_else = put_other w.state n.comp.0 (lead p.model n (w.state n.comp.0));
        number_else = put_other w.number n.comp.0 (w.number n.comp.0 + 1);
        spent_else = λ d other. refl;
        more =
            all_put (λ d now. w.number d ≤ now) w.number n.comp.0 (w.number n.comp.0 + 1)
            (omega arith) (λ d other. omega arith);
        past = λ x low _ same.
            omega (arith, same, put_here w.number n.comp.0 (w.number n.comp.0 + 1), used, low);
      }

  -- or it makes its last move, and is spent
  pub moved_last_too : w.number n.comp.0 ≡ last_number
      → AgreeWithCopiesAt p base u s
      (record w {
        state = led_by_it p w n;
        spent = put w.spent n.comp.0 true;
        mail = front ++ back;
      })
  moved_last_too last =
      joins (deliveries.moved_last told [] [] n refl last) w.known (front ++ back) w.waiting
      h.at_most h.alone h.own
      (λ m at.
      inr (moved_message s h.rest.books n.comp.0 (led_by_it p w n) w.number gone ended [] m
      (h.mail m (left m at))))
      (λ a q at.
      let (opens, home) = h.waiting a q at in (
        moved_request s h.rest.books n.comp.0 (led_by_it p w n) w.number gone ended [] q opens,
        home,
      ))
    where
      ended : HasMoved u w n.comp.0 (led_by_it p w n) w.number gone
      ended = record {
        state_else = put_other w.state n.comp.0 (lead p.model n (w.state n.comp.0));
        number_else = λ d other. refl;
        spent_else = put_other w.spent n.comp.0 true;
        more = λ d. omega arith;
        past = λ x low unspent same.
            true≢false (sym (put_here w.spent n.comp.0 true) ∙ unspent);
      }
