-- A new world agrees with its trace: nothing was granted or asked, and all that is in flight is
-- what each component offers first.
use Rattle.std.proofs.Common.{zero, suc, ◌≡◌, ℕ, ◌+◌, ◌<◌, ◌≤◌, List, [], length, Bool, true, false}
use Rattle.std.proofs.Common.{Option}
use Rattle.std.proofs.Common.{Some, None, refl, sym, ap, ◌∙◌, subst, inl, inr, arith}
use Rattle.std.proofs.lemmas.Bool.{true≢false}
use Rattle.std.proofs.lemmas.Option.{none-some, slice_get_past}
use Rattle.std.specs.Option.{option_map}
use Rattle.std.specs.Prelude.{IsSomeAnd}
use Rattle.bip_model.specs.Grants.{IsHistory, used_by}
use Rattle.bip_model.specs.Messages.{Shows, ShowsState}
use Rattle.bip_model.specs.Numbering.{last_number}
use Rattle.bip_model.specs.Partitions.{class_in}
use Rattle.bip_model.specs.Steps.{start_of}
use Rattle.bip_model.specs.declared.grants.Grant.{Grant}
use Rattle.bip_model.specs.declared.messages.Offer.{Offer}
use Rattle.bip_model.specs.declared.messages.Request.{Request}
use Rattle.bip_model.specs.declared.numbering.ClassId.{ClassId}
use Rattle.bip_model.specs.declared.parts.Component.{Component}
use Rattle.bip_model.specs.declared.states.LocalState.{LocalState}
use Rattle.bip_partition.specs.Plans.{Planned}
use Rattle.bip_replay.specs.Runs.{IsModelRun, state_after}
use Rattle.bip_component.specs.Components.{IsFirst, IsOffered, Node}
use Rattle.bip_ip.specs.Nodes.{ClassNode}
use Rattle.bip_ip.specs.declared.nodes.OpenRecord.{OpenRecord}
use Rattle.bip_bank.specs.Banks.{BankContent}
use Rattle.bip_core.specs.Starting.{AreOffersBelow, IsFirstClass, IsFirstComponent, IsNewWorld}
use Rattle.bip_core.specs.Worlds.{WorldContent}
use Rattle.bip_core.specs.declared.messages.Message.{Message}
use Rattle.bip_core.specs.declared.messages.Message.TheVariants.{OfferTo}
use Rattle.bip_core.specs.Agreement.{AgreeAt}
use Rattle.bip_core.specs.Books.{AreReserved, BooksAgree, MailFits, is_about, no_grant}
use Rattle.bip_core.specs.Lists.{In, count}
use Rattle.bip_core.specs.Numbers.{MailAwaited, NumbersAgree, is_for}
use Rattle.bip_core.specs.Locals.{LocalsAgree, MailShows}
use Rattle.bip_core.specs.Views.{View, held_of, known_of, number_at, pending_of, local_at, spent_of}
use Rattle.bip_core.specs.Views.{view_of}
use Rattle.bip_core.proofs.ListLemmas.{count-none, in-map, in-split}

module _ (p : Planned) (base : ℕ) where
  -- What is read of a component and of a class at the start

  first_number : (c : ℕ) (node : Option Node) → IsFirstComponent p base c node
      → number_at base node ≡ base + 1
  first_number c None first = refl
  first_number c (Some node) first = first.1.number

  first_spent : (c : ℕ) (node : Option Node) → IsFirstComponent p base c node
      → spent_of node ≡ false
  first_spent c None first = refl
  first_spent c (Some node) first = first.1.unspent

  first_local : (c : ℕ) (node : Option Node) → IsFirstComponent p base c node
      → local_at node ≡ start_of p.model c
  first_local c None past =
      ap (option_map (λ (k : Component). record { location = record { 0 = 0 }; values = k.start }))
      (sym (slice_get_past p.model.components c past))
  first_local c (Some node) first = sym first.1.local

  first_known : (k c : ℕ) (node : Option ClassNode) → IsFirstClass p base k node
      → known_of base node c ≡ base
  first_known k c None first = refl
  first_known k c (Some node) first = ap (λ (v : ClassNode). v.offers.known c) first.1

  first_held : (k c : ℕ) (node : Option ClassNode) → IsFirstClass p base k node
      → held_of node c ≡ None
  first_held k c None first = refl
  first_held k c (Some node) first = ap (λ (v : ClassNode). v.offers.held c) first.1

  first_pending : (k a : ℕ) (node : Option ClassNode) → IsFirstClass p base k node
      → pending_of node a ≡ None
  first_pending k a None first = refl
  first_pending k a (Some node) first = ap (λ (v : ClassNode). v.pending a) first.1

  -- a message is a component's first offer
  record IsFirstOffered (m : Message) : Type 0 where
    class : ClassId
    offer : Offer
    is : m ≡ OfferTo class offer
    number : offer.number ≡ base + 1
    shows : ShowsState p.model (start_of p.model) offer

  -- a component's first offer has the first number, and shows the start
  first_shows : (c : ℕ) (node : Node) (offer : Offer) → IsFirst p c base node
      → IsOffered node (Some offer)
      → (offer.number ≡ base + 1) × ShowsState p.model (start_of p.model) offer
  first_shows c node offer its (unspent, offered) =
      let there = sym its.local ∙ ap (start_of p.model) (sym (offered.comp ∙ its.comp)) in (
        offered.number ∙ its.number,
        subst (λ (x : Option LocalState). IsSomeAnd x (Shows p.model offer)) there
            (subst (λ (x : Planned). Shows x.model offer node.local) its.plan offered.shows),
      )

  -- so all that is in flight is such
  offers_below : (n : ℕ) (nodes : ℕ → Option Node) (messages : List Message)
      → ((c : ℕ) → IsFirstComponent p base c (nodes c)) → AreOffersBelow n p nodes messages
      → (m : Message) → In m messages → IsFirstOffered m
  offers_below zero nodes messages first none m at =
      absurd (subst (λ (ms : List Message). In m ms) none at)
  offers_below (suc c) nodes messages first below m at =
      let (node, offer, before, last, there, offered, to, rest, whole) = below in
      elim (in-split m before last (subst (λ (ms : List Message). In m ms) whole at)) [
        | inl earlier ↦ offers_below c nodes before first rest m earlier
        | inr its_own ↦
            let each = subst (λ (ms : List Message). In m ms) to.each its_own in
            let (k, among, is) = in-map (λ (k : ClassId). OfferTo k offer) to.classes m each in
            let its = (subst (IsFirstComponent p base c) there (first c)).1 in
            let (number, shows) = first_shows c node offer its offered in
            record { class = k; offer = offer; is = is; number = number; shows = shows }
      ]

  module _ (w : WorldContent) (room : base < last_number) (new : IsNewWorld p base w) where
    abbrev pub first_view : View
    first_view = view_of base w

    number : (c : ℕ) → first_view.number c ≡ base + 1
    number c = first_number c (w.components c) (new.components c)

    spent : (c : ℕ) → first_view.spent c ≡ false
    spent c = first_spent c (w.components c) (new.components c)

    state : (c : ℕ) → first_view.state c ≡ start_of p.model c
    state c = first_local c (w.components c) (new.components c)

    known : (k c : ℕ) → first_view.known k c ≡ base
    known k c = first_known k c (w.classes k) (new.classes k)

    mail : (m : Message) → In m w.mail → IsFirstOffered m
    mail = offers_below (length p.model.components) w.components w.mail new.components new.mail

    only_offers : (test : Message → Bool)
        → ((k : ClassId) (o : Offer) → test (OfferTo k o) ≡ false) → count test w.mail ≡ 0
    only_offers test fails = count-none test w.mail not_other
      where
        not_other : (m : Message) → In m w.mail → ¬ (test m ≡ true)
        not_other m at passes =
            let its = mail m at in
            true≢false (sym passes ∙ (ap test its.is ∙ fails its.class its.offer))

    within : {m : Message} (its : IsFirstOffered m)
        → its.offer.number ≤ first_view.number its.offer.comp.0
    within its = omega (arith, its.number, number its.offer.comp.0)

    -- nothing was granted, held, recorded or asked
    not_granted : (g : Grant) → ¬ In g w.trace
    not_granted g at = subst (λ (gs : List Grant). In g gs) new.trace at

    not_held : (k c : ℕ) (o : Offer) → ¬ (first_view.held k c ≡ Some o)
    not_held k c o is = none-some o (sym (first_held k c (w.classes k) (new.classes k)) ∙ is)

    not_pending : (k a : ℕ) (e : OpenRecord) → ¬ (first_view.pending k a ≡ Some e)
    not_pending k a e is =
        none-some e (sym (first_pending k a (w.classes k) (new.classes k)) ∙ is)

    none_waiting : (a : ℕ) → w.bank.waiting a ≡ []
    none_waiting a = ap (λ (b : BankContent). b.waiting a) new.bank

    first_books : BooksAgree p base (λ c. base) first_view
    first_books = record {
      used_is = ap (used_by (λ c. base)) new.trace;
      history = subst (IsHistory (λ c. base)) (sym new.trace) tt;
      fit = λ g at. absurd (not_granted g at);
      bank_grants =
          subst (λ (gs : List Grant). AreReserved p gs w.bank.grants) (sym new.trace)
          (subst (AreReserved p []) (sym (ap (λ (b : BankContent). b.grants) new.bank)) no_grant);
      bank_used = λ c row. ap (λ (b : BankContent). b.used c) new.bank;
      at_most = λ k c. omega (arith, known k c);
      alone = λ a c touches untabled. known (class_in p.classes a) c;
      own = λ g at. absurd (not_granted g at);
      records = λ k a e is. absurd (not_pending k a e is);
      apart = λ k a b e f is_e is_f same. absurd (not_pending k a e is_e);
      mail = λ m at.
          subst (MailFits (λ c. base) w.trace first_view.pending) (sym (mail m at).is) tt;
      waiting = λ a q at. absurd (subst (λ (qs : List Request). In q qs) (none_waiting a) at);
      once = λ a.
          let closed : length (w.bank.waiting a) ≡ 0 = ap length (none_waiting a) in
          omega (arith, closed, only_offers (is_about a) (λ k o. refl));
    }

    first_numbers : NumbersAgree p.model (λ c. base) first_view
    first_numbers = record {
      low = λ c. omega (arith, number c);
      high = λ c. omega (arith, number c);
      limit = λ c. omega (arith, number c);
      spent = λ c is. absurd (true≢false (sym is ∙ spent c));
      mail = λ m at.
          subst (MailAwaited (λ c. base) first_view.number first_view.spent)
          (sym (mail m at).is) (within (mail m at));
      once = λ c. omega (arith, only_offers (is_for c) (λ k o. refl));
      held = λ k c o is. absurd (not_held k c o is);
      records = λ k a e is. absurd (not_pending k a e is);
      owed = λ k a e n o. absurd (not_pending k a e o.is);
    }

    first_locals : LocalsAgree p.model base (λ c. base) (start_of p.model) first_view
    first_locals = record {
      end_is = ap (state_after p.model) new.trace;
      run = subst (IsModelRun p.model base) (sym new.trace) tt;
      at_rest = λ c _. state c;
      spent = λ c _. state c;
      mail = λ m at.
          subst (MailShows p.model (λ c. base) (start_of p.model) first_view.state)
          (sym (mail m at).is) (λ _. (mail m at).shows);
      held = λ k c o is. absurd (not_held k c o is);
      owed = λ k a e n o. absurd (not_pending k a e o.is);
      made = λ k a e is. absurd (not_pending k a e is);
    }

    -- a new world agrees, with the base used and each component in its start
    pub begins : AgreeAt p base (λ c. base) (start_of p.model) first_view
    begins = record { books = first_books; numbers = first_numbers; locals = first_locals }
