-- What agreement says, sentence by sentence: each of the six parts follows from what is kept of
-- used numbers, numbers and local states.
use Rattle.bip_core.proofs.WantLemmas.{offered_number}
use Rattle.std.proofs.Common.{◌≡◌, ℕ, ◌+◌, ◌≤◌, ◌==◌, List, Option, None, Some, true, false}
use Rattle.std.proofs.Common.{refl, sym, ap, ap₂, ◌∙◌, subst, inl, inr}
use Rattle.std.specs.Prelude.{IsSomeAnd}
use Rattle.std.proofs.Common.{arith}
use Rattle.std.proofs.lemmas.Bool.{cases_Bool, cases_eq, eq-eqb, eqb-true, true≢false}
use Rattle.bip_model.specs.Parties.{AreExplained, AreParties, HasWantOf}
use Rattle.bip_model.proofs.HistoryLemmas.{moves_once}
use Rattle.bip_model.specs.Messages.{Shows}
use Rattle.bip_model.specs.States.{State}
use Rattle.bip_model.specs.declared.states.LocalState.{LocalState}
use Rattle.bip_model.specs.Partitions.{class_in}
use Rattle.bip_model.specs.Steps.{after, moves}
use Rattle.bip_model.specs.Wants.{IsFresh, moved_in}
use Rattle.bip_model.specs.declared.grants.Grant.{Grant}
use Rattle.bip_model.specs.declared.messages.Notify.{Notify}
use Rattle.bip_model.specs.declared.messages.Offer.{Offer}
use Rattle.bip_model.specs.declared.messages.Request.{Request}
use Rattle.bip_model.specs.declared.wants.Want.{Want}
use Rattle.bip_partition.specs.Laws.{IsPlanned}
use Rattle.bip_partition.specs.Plans.{Planned}
use Rattle.bip_observe.proofs.OfferLemmas.{one_offer_each}
use Rattle.bip_observe.proofs.ShowLemmas.{ready_may_run}
use Rattle.bip_ip.specs.Asking.{told_by}
use Rattle.bip_ip.specs.declared.nodes.OpenRecord.{OpenRecord}
use Rattle.bip_ip.proofs.TellLemmas.{tells_participants}
use Rattle.bip_bank.specs.Decisions.{grant_of}
use Rattle.bip_core.specs.declared.messages.Message.{Message}
use Rattle.bip_core.specs.declared.messages.Message.TheVariants.{NotifyComponent, OfferTo}
use Rattle.bip_core.specs.declared.messages.Message.TheVariants.{ReplyToClass, RequestToBank}
use Rattle.bip_core.specs.Agreement.{AgreeAt}
use Rattle.bip_core.specs.Books.{HasRecord, RecordFits}
use Rattle.bip_core.specs.Lists.{In, count}
use Rattle.bip_core.specs.Numbers.{IsAwaited, IsOwed, RecordNumbers, is_for}
use Rattle.bip_core.specs.Sentences.{AgreementInSix, ComponentAgrees, IsMoving, IsOfferOut}
use Rattle.bip_core.specs.Sentences.{NoneToldIsStale, OneOfferOut}
use Rattle.bip_core.specs.Sentences.{IsAtRest, IsSpent, LeadsOn, OfferAgrees, RequestAgrees}
use Rattle.bip_core.specs.Locals.{Made}
use Rattle.bip_core.specs.Views.{CanBeTaken, TakesTo, View, local_at, number_at, spent_of}
use Rattle.bip_core.proofs.ListLemmas.{Any-one, count-none, count-same}
use Rattle.bip_core.proofs.LocalLemmas.{LeadsNext, fresh_leads, shown}
use Rattle.bip_core.proofs.TakeLemmas.{can_move_by}
use Rattle.bip_core.proofs.NumberLemmas.{quiet}
use Rattle.bip_core.proofs.RepeatLemmas.{same_some}
use Rattle.bip_core.proofs.ToldLemmas.{tells_move}
use Rattle.bip_core.proofs.UsedLemmas.{granted_once}

module _ {p : Planned} {base : ℕ} {u : ℕ → ℕ} {s : State} {w : View}
    (h : AgreeAt p base u s w) where
  -- A component is at rest, moving or spent

  at_rest : (c : ℕ) → w.number c ≡ u c + 1 → IsAtRest u s w c
  at_rest c next = record {
    number = next;
    there = h.locals.at_rest c next;
    none = record {
      in_flight = quiet h.numbers c (omega arith);
      owed = λ k a e n o same.
          let used = (h.numbers.owed k a e n o).0.used in
          omega (arith, next, used, ap w.number same, ap u same);
    };
  }

  leads_on : (c : ℕ) (n : Notify) → n.comp.0 ≡ c → IsAwaited u w.number w.spent n
      → TakesTo p.model n (w.state n.comp.0) (s n.comp.0) → LeadsOn p.model u s w c n
  leads_on c n same awaited leads = record {
    number = awaited.own ∙ (awaited.used ∙ ap u same);
    leads = subst (λ (d : ℕ). TakesTo p.model n (w.state d) (s d)) same leads;
  }

  moving : (c : ℕ) → w.number c ≡ u c → w.spent c ≡ false → IsMoving p.model u s w c
  moving c used unspent = record {
    number = used;
    unspent = unspent;
    once = h.numbers.once c;
    or_owed = λ k a e n o same.
        subst (λ (d : ℕ). count (is_for d) w.mail ≡ 0) same (h.numbers.owed k a e n o).1;
    in_flight = λ n at same.
        leads_on c n same (h.numbers.mail (NotifyComponent n) at)
        (h.locals.mail (NotifyComponent n) at);
    owed = λ k a e n o same.
        leads_on c n same (h.numbers.owed k a e n o).0 (h.locals.owed k a e n o);
  }

  ended : (c : ℕ) → w.spent c ≡ true → IsSpent u s w c
  ended c spent = record {
    spent = spent;
    used = (h.numbers.spent c spent).1;
    there = h.locals.spent c spent;
    none = record {
      in_flight = count-none (is_for c) w.mail not_for_it;
      owed = λ k a e n o same. not_awaited n same (h.numbers.owed k a e n o).0;
    };
  }
    where
      not_awaited : (n : Notify) → n.comp.0 ≡ c → ¬ IsAwaited u w.number w.spent n
      not_awaited n same awaited =
          true≢false (sym spent ∙ (ap w.spent (sym same) ∙ awaited.unspent))

      not_for_it : (m : Message) → In m w.mail → ¬ (is_for c m ≡ true)
      not_for_it (NotifyComponent n) at is =
          not_awaited n (eqb-true n.comp.0 c is) (h.numbers.mail (NotifyComponent n) at)
      not_for_it (RequestToBank q) at is = true≢false (sym is)
      not_for_it (ReplyToClass r) at is = true≢false (sym is)
      not_for_it (OfferTo k o) at is = true≢false (sym is)

  components_agree : (c : ℕ) → ComponentAgrees p.model u s w c
  components_agree c = elim (cases_Bool (w.spent c)) [
    | inl spent ↦ inr (inr (ended c spent))
    | inr unspent ↦ elim (cases_eq (w.number c) (u c)) [
      | inl used ↦ inr (inl (moving c used unspent))
      | inr unused ↦ inl (at_rest c (omega (arith, h.numbers.low c, h.numbers.high c, unused)))
    ]
  ]

  -- An offer, held or in flight, is no later than its component

  offers_agree : (o : Offer) → IsOfferOut w o → OfferAgrees p.model u s w o
  offers_agree o (inl (k, c, is)) =
      let (own, within) = h.numbers.held k c o is in
      let number_there = ap w.number own in
      record {
        within = omega arith;
        next = λ unused. omega (arith, h.numbers.high o.comp.0);
        shows = h.locals.held k c o is;
      }
  offers_agree o (inr (to, at)) =
      let within : o.number ≤ w.number o.comp.0 = h.numbers.mail (OfferTo to o) at in
      record {
        within = within;
        next = λ unused. omega (arith, h.numbers.high o.comp.0);
        shows = h.locals.mail (OfferTo to o) at;
      }

  -- What two records owe to one component is of one grant, so they are one record

  owed_by_one : (j k a b : ℕ) (e f : OpenRecord) (n x : Notify) → IsOwed w j a e n
      → IsOwed w k b f x → n.comp.0 ≡ x.comp.0 → (j ≡ k) × (a ≡ b) × (n ≡ x)
  owed_by_one j k a b e f n x owes other same =
      let made = h.locals.made j a e owes.is in
      let also = h.locals.made k b f other.is in
      let told : In n (told_by p.model made.offers e.request.inter.0) =
      subst (In n) made.tells_are owes.tells in
      let again : In x (told_by p.model also.offers f.request.inter.0) =
      subst (In x) also.tells_are other.tells in
      let moves_e = tells_move made.wants_are n told in
      let moves_f = tells_move also.wants_are x again in
      let v = moves_e.has in
      let numbers : x.number ≡ n.number = (h.numbers.owed k b f x other).0.own
      ∙ (ap w.number (sym same) ∙ sym (h.numbers.owed j a e n owes).0.own) in
      let by_e : moved_in e.request.wants v.want.comp.0 ≡ v.want.number =
      ap (moved_in e.request.wants) v.comp ∙ (moves_e.moved ∙ sym v.number) in
      let by_f : moved_in f.request.wants v.want.comp.0 ≡ v.want.number =
      ap (moved_in f.request.wants) (v.comp ∙ same)
      ∙ (moves_f.moved ∙ (numbers ∙ sym v.number)) in
      let one = granted_once (λ c. base) w.trace (grant_of e.request)
      (grant_of f.request) v.want h.books.history owes.granted other.granted v.among by_e
      by_f in
      let its = h.books.records j a e owes.is in
      let others = h.books.records k b f other.is in
      let inter : a ≡ b = sym its.number ∙ (ap (λ (g : Grant). g.inter.0) one ∙ others.number) in
      let class : j ≡ k = sym its.home ∙ (ap (class_in p.classes) inter ∙ others.home) in
      let entry : e ≡ f = same_some e f (sym owes.is ∙ (ap₂ w.pending class inter ∙ other.is)) in
      let among : In x e.notifies = subst (λ (r : OpenRecord). In x r.notifies)
      (sym entry) other.tells in (
        class,
        inter,
        count-same (λ (m : Notify). m.comp.0 == n.comp.0) n x e.notifies
            ((h.numbers.records j a e owes.is).once n.comp.0) owes.tells among
            (eq-eqb n.comp.0 n.comp.0 refl) (eq-eqb x.comp.0 n.comp.0 (sym same)),
      )

  -- A request has its record, and where it is fresh, its interaction may run

  module _ (planned : IsPlanned p) (q : Request) (has : HasRecord w.trace w.pending q) where
    fits : RecordFits p w.next q.class.0 q.inter.0 has.entry
    fits = h.books.records q.class.0 q.inter.0 has.entry has.is

    made : Made p.model u s q.inter.0 q.reasons q.wants has.entry.notifies
    made =
        subst
        (λ (x : Request). Made p.model u s x.inter.0 x.reasons x.wants has.entry.notifies) has.same
        (h.locals.made q.class.0 q.inter.0 has.entry has.is)

    told : (c : ℕ) → moves p.model q.inter.0 c ≡ true
        → (n : Notify) × In n has.entry.notifies × (n.comp.0 ≡ c)
    told c on =
        let of_all = told_by p.model made.offers q.inter.0 in
        let (n, at, same) =
        Any-one (λ (n : Notify). n.comp.0 ≡ c) of_all
        (tells_participants p.model made.offers q.inter.0 c on) in
        (n, subst (λ (ns : List Notify). In n ns) (sym made.tells_are) at, same)

    numbers : RecordNumbers p.model w.number has.entry
    numbers = h.numbers.records q.class.0 q.inter.0 has.entry has.is

    only : (n : Notify) → In n has.entry.notifies → moves p.model q.inter.0 n.comp.0 ≡ true
    only n at =
        subst (λ (x : Request). moves p.model x.inter.0 n.comp.0 ≡ true) has.same
        (numbers.tells n at)

    own : (v : Want) → In v q.wants → v.number ≤ w.number v.comp.0
    own v at =
        numbers.wants v (subst (λ (x : Request). In v x.wants) (sym has.same) at)

    leads_next : IsFresh u q.wants → (n : Notify) → In n has.entry.notifies
        → LeadsNext p.model u (after p.model s q.inter.0) w n
    leads_next fresh = fresh_leads h.locals planned.valid h.numbers made fresh own

    request_agrees : RequestAgrees p u s w q
    request_agrees = record {
      fit = record {
        reserved = fits.reserved;
        class = sym fits.home;
        parties =
            subst (λ (x : Request). AreParties p.model q.inter.0 x.wants) has.same fits.wants;
        explained =
            subst (λ (x : Request). AreExplained p.model q.inter.0 x.wants x.reasons) has.same
            fits.explained;
      };
      has = has;
      told = told;
      only = only;
      own = own;
      so = (
        made.offers,
        record {
          numbers = offered_number made.wants_are;
          so = made.so;
          show = made.fit;
        },
      );
      may = λ fresh.
          ready_may_run p.model made.offers (HasWantOf q.wants) s q.inter.0 made.ready
          (shown made fresh);
      numbers = λ fresh n at. (leads_next fresh n at).own;
      leads = λ fresh n at. (leads_next fresh n at).leads;
    }

-- all six parts
pub agrees_in_six : AgreementInSix
agrees_in_six p planned base u s w h = record {
  trace = record {
    run = h.locals.run;
    once = moves_once (λ c. base) w.trace h.books.history;
    bank = h.books.bank_grants;
  };
  components = components_agree h;
  offers = offers_agree h;
  used = record {
    tabled = h.books.bank_used;
    untabled = h.books.alone;
    no_greater = h.books.at_most;
    own = h.books.own;
  };
  requests = λ q out. request_agrees h planned q (elim out [
    | inl in_flight ↦ h.books.mail (RequestToBank q) in_flight
    | inr (a, at) ↦ (h.books.waiting a q at).0
  ]);
  records = record {
    fit = h.books.records;
    apart = h.books.apart;
    once = h.books.once;
    replies = λ r at. h.books.mail (ReplyToClass r) at;
    told = λ n at. h.books.mail (NotifyComponent n) at;
    one_owes = owed_by_one h;
  };
}

-- offers that show one state are one
pub one_offer_out : OneOfferOut
one_offer_out p base u s w six x y out also comp number unused =
    let mine = (six.offers x out).shows unused in
    let other = (six.offers y also).shows (omega (arith, unused, number, ap u comp)) in
    by_local (s x.comp.0) refl mine (subst (λ (c : ℕ). IsSomeAnd (s c) (Shows p.model y))
    (sym comp) other)
  where
    by_local : (local : Option LocalState) → s x.comp.0 ≡ local → IsSomeAnd local (Shows p.model x)
        → IsSomeAnd local (Shows p.model y) → x ≡ y
    by_local None is mine other = absurd mine
    by_local (Some local) is mine other =
        one_offer_each p.model x.comp.0 x.number local x y
        (record { comp = refl; number = refl; shows = mine })
        (record { comp = sym comp; number = sym number; shows = other })

-- what is told is awaited, and can be taken where its component is
pub none_told_is_stale : NoneToldIsStale
none_told_is_stale w agrees n at node here =
    let its = agrees.nodes.components n.comp.0 node here in
    let awaited = agrees.all.numbers.mail (NotifyComponent n) at in
    let leads = agrees.all.locals.mail (NotifyComponent n) at in
    let number = ap (number_at w.bank.base) here in
    can_move_by w.plan node n its.0 (sym its.1) (awaited.own ∙ number)
    (sym (ap spent_of here) ∙ awaited.unspent)
    (subst (CanBeTaken w.plan.model n) (ap local_at here) leads.taken)
