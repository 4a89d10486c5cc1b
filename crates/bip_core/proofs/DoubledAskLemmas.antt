-- A class asks where copies may be in flight: none of them has the new request's number, and that
-- was never granted.
use Rattle.std.proofs.Common.{◌≡◌, ◌≢◌, ℕ, ◌+◌, ◌<◌, ◌≤◌, ◌⊎◌, [], ◌∷◌, ◌++◌, Some}
use Rattle.std.proofs.Common.{sym, ap, ◌∙◌, subst, inl, inr, arith}
use Rattle.std.proofs.lemmas.Option.{none-some}
use Rattle.std.specs.Prelude.{All}
use Rattle.bip_model.specs.Numbering.{put}
use Rattle.bip_model.specs.Parties.{AreExplained, AreWantsBy}
use Rattle.bip_model.specs.Partitions.{class_in}
use Rattle.bip_model.specs.States.{State}
use Rattle.bip_model.specs.Wants.{IsFresh}
use Rattle.bip_model.specs.declared.grants.Grant.{Grant}
use Rattle.bip_model.specs.declared.messages.Notify.{Notify}
use Rattle.bip_model.specs.declared.messages.Offer.{Offer}
use Rattle.bip_model.specs.declared.messages.Reply.TheVariants.{Granted, Refused}
use Rattle.bip_model.specs.declared.messages.Request.{Request}
use Rattle.bip_model.specs.declared.reasons.Why.{Why}
use Rattle.bip_model.specs.declared.wants.Want.{Want}
use Rattle.bip_partition.specs.Laws.{IsPlanned}
use Rattle.bip_partition.specs.Plans.{IsReserved, Planned}
use Rattle.bip_bank.specs.Decisions.{grant_of}
use Rattle.bip_observe.specs.Verdicts.{IsTrueOf}
use Rattle.bip_ip.specs.Asking.{told_by}
use Rattle.bip_ip.specs.declared.nodes.OpenRecord.{OpenRecord}
use Rattle.bip_core.specs.Doubled.{AgreeWithCopiesAt, IsWaitedOrStale, MessageHolds, RequestHolds}
use Rattle.bip_core.specs.Doubled.{without_mail}
use Rattle.bip_core.specs.Lists.{In}
use Rattle.bip_core.specs.Numbers.{IsOwed}
use Rattle.bip_core.specs.Views.{View}
use Rattle.bip_core.specs.declared.messages.Message.{Message}
use Rattle.bip_core.specs.declared.messages.Message.TheVariants.{NotifyComponent, OfferTo}
use Rattle.bip_core.specs.declared.messages.Message.TheVariants.{ReplyToClass, RequestToBank}
use Rattle.bip_core.proofs.DoubledLemmas.{joins, takes_rest}
use Rattle.bip_core.proofs.ListLemmas.{each-All, in-split}
use Rattle.bip_core.proofs.NumberLemmas.{owed_in}
use Rattle.bip_core.proofs.PutLemmas.{all_put, at_same, put_at_apart, put_at_cases}
use Rattle.bip_core.proofs.TryLemmas as tries
use Rattle.bip_core.proofs.TryLemmas.{WantedCount, Takes, asking_for}
use Rattle.bip_core.proofs.WantLemmas.{has_want, offered_number}

module _ {p : Planned} (planned : IsPlanned p) {base : ℕ} {u : ℕ → ℕ} {s : State} {w : View}
    (h : AgreeWithCopiesAt p base u s w) (o : ℕ → Offer) (q : Request)
    (takes : Takes p w q.class.0 q.inter.0 o q.wants) (counts : WantedCount w q.class.0 o q.wants)
    (by : AreWantsBy p.model o q.inter.0 q.reasons q.wants)
    (number : q.request ≡ w.next q.class.0) where
  abbrev entry : OpenRecord
  entry = record { request = q; notifies = told_by p.model o q.inter.0 }

  abbrev next : ℕ → ℕ
  next = put w.next q.class.0 (w.next q.class.0 + 1)

  abbrev asking : View
  asking = asking_for p (without_mail u w) q.class.0 q.inter.0 o q

  more : (j : ℕ) → w.next j ≤ next j
  more =
      all_put (λ j n. w.next j ≤ n) w.next q.class.0 (w.next q.class.0 + 1) (omega arith)
      (λ j other. omega arith)

  cases : (j b : ℕ) (e : OpenRecord) → asking.pending j b ≡ Some e
      → ((j ≡ q.class.0) × (b ≡ q.inter.0) × (entry ≡ e)) ⊎ (w.pending j b ≡ Some e)
  cases = put_at_cases w.pending q.class.0 q.inter.0 entry

  -- what was made has another number
  other_number : (j n : ℕ) (e : OpenRecord) → j ≡ q.class.0 → entry ≡ e → n < w.next j
      → e.request.request ≢ n
  other_number j n e class is made same =
      let its = ap (λ (f : OpenRecord). f.request.request) is in
      omega (arith, made, same, its, number, ap w.next class)

  -- had it been granted, it wouldn't be fresh by what the class knows
  not_granted : ¬ In (grant_of q) w.trace
  not_granted at = elim (h.own (grant_of q) at) [
    | inl waits ↦
        let there = ap (λ (j : ℕ). w.pending j q.inter.0) takes.home in
        none-some waits.0 (sym takes.free ∙ (sym there ∙ waits.1))
    | inr stale ↦
        let home = ap w.known takes.home in
        stale (subst (λ (f : ℕ → ℕ). IsFresh f q.wants) (sym home)
        (each-All (λ (v : Want). w.known q.class.0 v.comp.0 < v.number) q.wants (λ v among.
        let new = counts v.comp.0 (has_want q.wants v among) in
        omega (arith, new, offered_number by v among))))
  ]

  was_owed : (j b : ℕ) (e : OpenRecord) (n : Notify) → IsOwed asking j b e n → IsOwed w j b e n
  was_owed j b e n owes = elim (cases j b e owes.is) [
    | inl new ↦
        let in_trace : OpenRecord → Type 0 = λ r. In (grant_of r.request) w.trace in
        absurd (not_granted (subst in_trace (sym new.2) owes.granted))
    | inr old ↦ owed_in w old owes.granted owes
  ]

  asked_request : (x : Request) → RequestHolds p u w x → RequestHolds p u asking x
  asked_request x r = record {
    fit = r.fit;
    made = omega (arith, r.made, more x.class.0);
    same = λ b e is same. elim (cases x.class.0 b e is) [
      | inl new ↦ absurd (other_number x.class.0 x.request e new.0 new.2 r.made same)
      | inr old ↦ r.same b e old same
    ];
    has = λ fresh.
        let (e, is, same) = r.has fresh in
        elim (put_at_apart w.pending q.class.0 q.inter.0 (Some entry) x.class.0 x.inter.0) [
          | inl place ↦
              let free = sym (at_same w.pending place.0 place.1) ∙ is in
              absurd (none-some e (sym takes.free ∙ free))
          | inr left ↦ (e, left ∙ is, same)
        ];
  }

  asked_message : (m : Message) → MessageHolds p u s w m → MessageHolds p u s asking m
  asked_message (RequestToBank x) r = asked_request x r
  asked_message (ReplyToClass (Granted k n a serial)) r = record {
    made = omega (arith, r.made, more k.0);
    so = λ e is same. elim (cases k.0 a.0 e is) [
      | inl new ↦ absurd (other_number k.0 n e new.0 new.2 r.made same)
      | inr old ↦ r.so e old same
    ];
  }
  asked_message (ReplyToClass (Refused k n a c used)) r = (
    r.0,
    record {
      made = omega (arith, r.1.made, more k.0);
      so = λ e is same. elim (cases k.0 a.0 e is) [
        | inl new ↦ absurd (other_number k.0 n e new.0 new.2 r.1.made same)
        | inr old ↦ r.1.so e old same
      ];
    },
  )
  asked_message (NotifyComponent n) r = record {
    of_grant = r.of_grant;
    not_owed = λ k a e x owes. r.not_owed k a e x (was_owed k a e x owes);
    leads = r.leads;
  }
  asked_message (OfferTo k x) r = record { within = r.within; shows = r.shows }

  own : (g : Grant) → In g w.trace → IsWaitedOrStale p w.known asking.pending g
  own g at = elim (h.own g at) [
    | inl (e, is, same) ↦
        let home = class_in p.classes g.inter.0 in
        elim (put_at_apart w.pending q.class.0 q.inter.0 (Some entry) home g.inter.0) [
          | inl place ↦
              let free = sym (at_same w.pending place.0 place.1) ∙ is in
              absurd (none-some e (sym takes.free ∙ free))
          | inr left ↦ inl (e, left ∙ is, same)
        ]
    | inr stale ↦ inr stale
  ]

  pub asks_too : All (λ (y : Why). IsTrueOf p.model o y.inter.0 y.cause) q.reasons
      → AreExplained p.model q.inter.0 q.wants q.reasons → IsReserved p q.inter.0
      → AgreeWithCopiesAt p base u s (asking_for p w q.class.0 q.inter.0 o q)
  asks_too so explained is_reserved =
      joins
      (tries.asks_ungranted planned h.rest (takes_rest u takes) by so explained is_reserved number
      not_granted)
      w.known (w.mail ++ RequestToBank q ∷ []) w.waiting h.at_most h.alone own
      (λ m at. elim (in-split m w.mail (RequestToBank q ∷ []) at) [
        | inl old ↦ inr (asked_message m (h.mail m old))
        | inr new ↦ inl new
      ])
      (λ a x at. let (holds, home) = h.waiting a x at in (asked_request x holds, home))
