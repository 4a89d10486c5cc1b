-- Messages of an agreeing world: taken out, lost, or put last.
use Rattle.std.proofs.Common.{◌≡◌, ℕ, ◌+◌, ◌<◌, ◌≤◌, List, [], ◌∷◌, ◌++◌, length, Bool, true, false}
use Rattle.std.proofs.Common.{cond, map, refl, sym, ap, ◌∙◌, subst, inl, inr, arith}
use Rattle.std.proofs.lemmas.Bool.{cases_eq, eqb-true, ne_eqb}
use Rattle.std.specs.Prelude.{◌==◌}
use Rattle.bip_model.specs.Messages.{ShowsState}
use Rattle.bip_model.specs.States.{State}
use Rattle.bip_model.specs.Wants.{moved_in}
use Rattle.bip_model.specs.declared.grants.Grant.{Grant}
use Rattle.bip_model.specs.declared.messages.Notify.{Notify}
use Rattle.bip_model.specs.declared.messages.Offer.{Offer}
use Rattle.bip_model.specs.declared.numbering.ClassId.{ClassId}
use Rattle.bip_partition.specs.Plans.{Planned}
use Rattle.bip_ip.specs.declared.nodes.OpenRecord.{OpenRecord}
use Rattle.bip_core.specs.Events.{are_notified}
use Rattle.bip_core.specs.declared.messages.Message.{Message}
use Rattle.bip_core.specs.declared.messages.Message.TheVariants.{NotifyComponent, OfferTo}
use Rattle.bip_core.specs.Agreement.{AgreeAt}
use Rattle.bip_core.specs.Books.{MailFits, is_about}
use Rattle.bip_core.specs.Lists.{In, count}
use Rattle.bip_core.specs.Numbers.{IsAwaited, IsOwed, MailAwaited, is_for}
use Rattle.bip_core.specs.Locals.{MailShows}
use Rattle.bip_core.specs.Views.{TakesTo, View}
use Rattle.bip_core.proofs.BookLemmas as books
use Rattle.bip_core.proofs.BookLemmas.{NothingAbout}
use Rattle.bip_core.proofs.ListLemmas.{count-cases, count-none, count-one, count-taken}
use Rattle.bip_core.proofs.ListLemmas.{count-wider, fails-none, in-map, in-one, in-wider}
use Rattle.bip_core.proofs.LocalLemmas as locals
use Rattle.bip_core.proofs.NumberLemmas as numbers
use Rattle.bip_core.proofs.ToldLemmas.{is_told}

-- notifications are about no interaction, and each for one component
count-told_about : (a : ℕ) (ns : List Notify) → count (is_about a) (are_notified ns) ≡ 0
count-told_about a [] = refl
count-told_about a (n ∷ ns) = omega (arith, count-told_about a ns)

count-told_for : (c : ℕ) (ns : List Notify)
    → count (is_for c) (are_notified ns) ≡ count (is_told c) ns
count-told_for c [] = refl
count-told_for c (n ∷ ns) = ap (λ x. cond (n.comp.0 == c) 1 0 + x) (count-told_for c ns)

-- an offer to each of these classes
abbrev pub offers_to : List ClassId → Offer → List Message
offers_to ks o = map (λ k. OfferTo k o) ks

-- offers are about no interaction, and for no component
count-offers_about : (a : ℕ) (ks : List ClassId) (o : Offer)
    → count (is_about a) (offers_to ks o) ≡ 0
count-offers_about a [] o = refl
count-offers_about a (k ∷ ks) o = omega (arith, count-offers_about a ks o)

count-offers_for : (c : ℕ) (ks : List ClassId) (o : Offer) → count (is_for c) (offers_to ks o) ≡ 0
count-offers_for c [] o = refl
count-offers_for c (k ∷ ks) o = omega (arith, count-offers_for c ks o)

-- a message may be sent
abbrev pub MaySend : Planned → (ℕ → ℕ) → State → View → Message → Type 0
MaySend p u s w m =
    MailFits u w.trace w.pending m × MailAwaited u w.number w.spent m
    × MailShows p.model u s w.state m

-- a component may be told: of a grant that moved it with this number, which it awaits, and which
-- leads it to where the trace does; and nothing tells it yet
pub record MayTell (p : Planned) (u : ℕ → ℕ) (s : State) (w : View) (n : Notify) : Type 0 where
  pub granted : (g : Grant) × In g w.trace × (moved_in g.wants n.comp.0 ≡ n.number)
  pub awaited : IsAwaited u w.number w.spent n
  pub leads : TakesTo p.model n (w.state n.comp.0) (s n.comp.0)
  pub none : count (is_for n.comp.0) w.mail ≡ 0

-- a message that is taken out is one less that passes, if it does
pub one_less : (test : Message → Bool) (mail front back : List Message) (m : Message)
    → mail ≡ front ++ m ∷ back → test m ≡ true → count test mail ≡ 1 + count test (front ++ back)
one_less test mail front back m whole passes =
    ap (count test) whole ∙ count-taken test m front back passes

-- and no more pass, whatever it does
pub no_more : (test : Message → Bool) (mail front back : List Message) (m : Message)
    → mail ≡ front ++ m ∷ back → count test (front ++ back) ≤ count test mail
no_more test mail front back m whole =
    omega (arith, count-wider test m front back, ap (count test) whole)

module _ {p : Planned} {base : ℕ} {u : ℕ → ℕ} {s : State} {w : View}
    (h : AgreeAt p base u s w) where
  -- there are fewer messages in flight
  pub fewer : {mail : List Message} → ((m : Message) → In m mail → In m w.mail)
      → ((test : Message → Bool) → count test mail ≤ count test w.mail)
      → AgreeAt p base u s (record w { mail = mail })
  fewer among less = record {
    books = books.fewer h.books among (λ a. less (is_about a));
    numbers = numbers.fewer h.numbers among (λ c. less (is_for c));
    locals = locals.fewer h.locals among;
  }

  -- a message is taken out, and nothing else
  pub taken : (front back : List Message) (m : Message) → w.mail ≡ front ++ m ∷ back
      → AgreeAt p base u s (record w { mail = front ++ back })
  taken front back m whole =
      fewer
      (λ x at. subst (λ (xs : List Message). In x xs) (sym whole) (in-wider x m front back at))
      (λ test. no_more test w.mail front back m whole)

  -- messages are sent that may be, at most one about an interaction or for a component
  pub sent : (ms : List Message) → ((m : Message) → In m ms → MaySend p u s w m)
      → ((a : ℕ) → count (is_about a) w.mail + count (is_about a) ms + length (w.waiting a) ≤ 1)
      → ((c : ℕ) → count (is_for c) w.mail + count (is_for c) ms ≤ 1)
      → ((k a : ℕ) (e : OpenRecord) (n : Notify) → IsOwed w k a e n
      → count (is_for n.comp.0) ms ≡ 0)
      → AgreeAt p base u s (record w { mail = w.mail ++ ms })
  sent ms may about for free = record {
    books = books.sent h.books ms (λ m at. (may m at).0) about;
    numbers = numbers.sent h.numbers ms (λ m at. (may m at).1) for free;
    locals = locals.sent h.locals ms (λ m at. (may m at).2);
  }

  -- a message about an interaction is sent, and nothing else is about it
  pub sends_about : (a : ℕ) (m : Message) → ((b : ℕ) → is_about b m ≡ (a == b))
      → ((c : ℕ) → is_for c m ≡ false) → NothingAbout w a → MaySend p u s w m
      → AgreeAt p base u s (record w { mail = w.mail ++ m ∷ [] })
  sends_about a m about for nothing may =
      sent (m ∷ []) (λ x at. subst (MaySend p u s w) (sym (in-one x m at)) may) once
      (λ c. omega (arith, h.numbers.once c, for_none c))
      (λ k b e n owed. for_none n.comp.0)
    where
      for_none : (c : ℕ) → count (is_for c) (m ∷ []) ≡ 0
      for_none c = omega (arith, fails-none (is_for c) m (for c))

      once : (b : ℕ)
          → count (is_about b) w.mail + count (is_about b) (m ∷ []) + length (w.waiting b) ≤ 1
      once b = elim (cases_eq a b) [
        | inl same ↦
            let none = subst (NothingAbout w) same nothing in
            omega (arith, none, count-one (is_about b) m)
        | inr other ↦
            let none = fails-none (is_about b) m (about b ∙ ne_eqb a b other) in
            omega (arith, none, h.books.once b)
      ]

  -- an offer is sent to classes
  pub sends_offers : (ks : List ClassId) (o : Offer) → o.number ≤ w.number o.comp.0
      → (u o.comp.0 < o.number → ShowsState p.model s o)
      → AgreeAt p base u s (record w { mail = w.mail ++ offers_to ks o })
  sends_offers ks o within shows =
      sent (offers_to ks o) may
      (λ a. omega (arith, h.books.once a, count-offers_about a ks o))
      (λ c. omega (arith, h.numbers.once c, count-offers_for c ks o))
      (λ k a e n owed. count-offers_for n.comp.0 ks o)
    where
      may : (m : Message) → In m (offers_to ks o) → MaySend p u s w m
      may m at =
          let (k, among, is) = in-map (λ (k : ClassId). OfferTo k o) ks m at in
          subst (MaySend p u s w) (sym is) (tt, within, shows)

  -- components are told, each at most once, where no record owes it
  pub sends_told : (ns : List Notify) → ((n : Notify) → In n ns → MayTell p u s w n)
      → ((c : ℕ) → count (is_told c) ns ≤ 1)
      → ((k a : ℕ) (e : OpenRecord) (x n : Notify) → IsOwed w k a e x → In n ns
      → ¬ (n.comp.0 ≡ x.comp.0))
      → AgreeAt p base u s (record w { mail = w.mail ++ are_notified ns })
  sends_told ns may once free =
      sent (are_notified ns) may_send
      (λ a. omega (arith, h.books.once a, count-told_about a ns))
      for_once
      (λ k a e x owed.
      count-told_for x.comp.0 ns
      ∙ count-none (is_told x.comp.0) ns
      (λ n at told. free k a e x n owed at (eqb-true n.comp.0 x.comp.0 told)))
    where
      may_send : (m : Message) → In m (are_notified ns) → MaySend p u s w m
      may_send m at =
          let (n, among, is) = in-map NotifyComponent ns m at in
          let its = may n among in
          subst (MaySend p u s w) (sym is) (its.granted, its.awaited, its.leads)

      for_once : (c : ℕ) → count (is_for c) w.mail + count (is_for c) (are_notified ns) ≤ 1
      for_once c = elim (count-cases (is_told c) ns) [
        | inl nobody ↦ omega (arith, h.numbers.once c, count-told_for c ns, nobody)
        | inr somebody ↦
            let (n, at, told) = somebody in
            let own = eqb-true n.comp.0 c told in
            let none = (may n at).none in
            let same = ap (λ (d : ℕ). count (is_for d) w.mail) own in
            omega (arith, none, same, once c, count-told_for c ns)
      ]
