-- What an agreement of worlds with their traces has to keep, for each event to keep it: small steps
-- over views. An event is one of these, and then what it sends is put last but for what is lost.
use Rattle.std.proofs.Common.{◌≡◌, ℕ, ◌+◌, ◌<◌, ◌≤◌, max, cond, List, [], ◌∷◌, ◌++◌, Bool, true}
use Rattle.std.proofs.Common.{Some, None, false, sym, subst, inl, inr, arith}
use Rattle.std.specs.Prelude.{◌==◌, All, Any}
use Rattle.bip_model.specs.Messages.{ShowsState}
use Rattle.bip_model.specs.Numbering.{last_number, put}
use Rattle.bip_model.specs.Parties.{AreExplained, AreWantsBy}
use Rattle.bip_model.specs.States.{State}
use Rattle.bip_model.specs.Steps.{after}
use Rattle.bip_model.specs.Wants.{IsFresh, raised}
use Rattle.bip_model.specs.declared.grants.Grant.{Grant}
use Rattle.bip_model.specs.declared.messages.Notify.{Notify}
use Rattle.bip_model.specs.declared.messages.Offer.{Offer}
use Rattle.bip_model.specs.declared.messages.Reply.TheVariants.{Granted, Refused}
use Rattle.bip_model.specs.declared.messages.Request.{Request}
use Rattle.bip_model.specs.declared.numbering.ClassId.{ClassId}
use Rattle.bip_model.specs.declared.numbering.CompId.{CompId}
use Rattle.bip_model.specs.declared.numbering.InterId.{InterId}
use Rattle.bip_model.specs.declared.reasons.Why.{Why}
use Rattle.bip_model.specs.declared.wants.Want.{Want}
use Rattle.bip_partition.specs.Plans.{IsReserved, Planned}
use Rattle.bip_bank.specs.Decisions.{grant_of}
use Rattle.bip_observe.specs.Verdicts.{IsTrueOf}
use Rattle.bip_replay.specs.Runs.{state_after, used_after}
use Rattle.bip_ip.specs.declared.nodes.OpenRecord.{OpenRecord}
use Rattle.bip_core.specs.Events.{AreKeptOf, all_done, are_notified, one_kept, one_lost}
use Rattle.bip_core.specs.declared.messages.Message.{Message}
use Rattle.bip_core.specs.declared.messages.Message.TheVariants.{NotifyComponent, OfferTo}
use Rattle.bip_core.specs.declared.messages.Message.TheVariants.{ReplyToClass, RequestToBank}
use Rattle.bip_core.specs.Lists.{In, count, put_at}
use Rattle.bip_core.specs.Views.{View, lead}
use Rattle.bip_core.proofs.ListLemmas.{count-append, in-back, in-front, in-split, in-wider}
use Rattle.bip_core.proofs.MailLemmas.{no_more, offers_to}
use Rattle.bip_core.proofs.TryLemmas.{WantedCount, Takes, asking_for, granting_to}
use Rattle.bip_core.proofs.UsedLemmas.{learning}

-- a message was taken out of a view from between others
abbrev pub IsTaken : View → List Message → List Message → Message → Type 0
IsTaken w front back m = w.mail ≡ front ++ m ∷ back

-- what a notification leaves of its component, which goes on to its next number, or ends with the
-- last one
abbrev pub led_by_it : Planned → View → Notify → State
led_by_it p w n = put w.state n.comp.0 (lead p.model n (w.state n.comp.0))

-- a refusal's record is there, and the class that drops it learns no more than the used number that
-- is told of the component that it names, and this one
pub record IsTaught (w : View) (k : ClassId) (number : ℕ) (a : InterId) (c : CompId) (used : ℕ)
    (e : OpenRecord) (learnt : ℕ → ℕ) : Type 0 where
  pub is : w.pending k.0 a.0 ≡ Some e
  pub named : e.request.request ≡ number
  pub more : (b : ℕ) → w.known k.0 b ≤ learnt b
  pub taught : (b : ℕ) → learnt b ≤ max (w.known k.0 b) (cond (b == c.0) used 0)
  pub told : used ≤ learnt c.0

-- the small steps
pub record KeepsSteps (p : Planned) (base : ℕ) (A : (ℕ → ℕ) → State → View → Type 0) : Type 0 where
  -- what agrees is at the used numbers and the state of its trace
  pub used_is : (u : ℕ → ℕ) (s : State) (w : View) → A u s w → used_after base w.trace ≡ u
  pub end_is : (u : ℕ → ℕ) (s : State) (w : View) → A u s w → state_after p.model w.trace ≡ s
  -- messages are lost or taken out
  pub fewer : (u : ℕ → ℕ) (s : State) (w : View) → A u s w → (mail : List Message)
      → ((m : Message) → In m mail → In m w.mail)
      → ((test : Message → Bool) → count test mail ≤ count test w.mail)
      → A u s (record w { mail = mail })
  -- an offer is held
  pub offered : (u : ℕ → ℕ) (s : State) (w : View) → A u s w → (front back : List Message)
      (k : ClassId) (o : Offer) → IsTaken w front back (OfferTo k o)
      → A u s (record w { mail = front ++ back; held = put_at w.held k.0 o.comp.0 (Some o) })
  -- a request is open
  pub asked : (u : ℕ → ℕ) (s : State) (w : View) → A u s w → (front back : List Message)
      (q : Request) → IsTaken w front back (RequestToBank q)
      → A u s
      (record w {
        mail = front ++ back;
        waiting = put w.waiting q.inter.0 (w.waiting q.inter.0 ++ q ∷ []);
      })
  -- a component moves by a notification of its own number, and offers its next move
  pub moved_on : (u : ℕ → ℕ) (s : State) (w : View) → A u s w → (front back : List Message)
      (n : Notify) → IsTaken w front back (NotifyComponent n) → w.spent n.comp.0 ≡ false
      → n.number ≡ w.number n.comp.0 → (ks : List ClassId) (o : Offer)
      → w.number n.comp.0 < last_number → o.comp.0 ≡ n.comp.0
      → o.number ≡ w.number n.comp.0 + 1 → ShowsState p.model (led_by_it p w n) o
      → A u s
      (record w {
        state = led_by_it p w n;
        number = put w.number n.comp.0 (w.number n.comp.0 + 1);
        mail = (front ++ back) ++ offers_to ks o;
      })
  -- or it makes its last move
  pub moved_last : (u : ℕ → ℕ) (s : State) (w : View) → A u s w → (front back : List Message)
      (n : Notify) → IsTaken w front back (NotifyComponent n) → w.spent n.comp.0 ≡ false
      → n.number ≡ w.number n.comp.0 → w.number n.comp.0 ≡ last_number
      → A u s
      (record w {
        state = led_by_it p w n;
        spent = put w.spent n.comp.0 true;
        mail = front ++ back;
      })
  -- a granted record tells
  pub granted : (u : ℕ → ℕ) (s : State) (w : View) → A u s w → (front back : List Message)
      (k : ClassId) (number : ℕ) (a : InterId) (serial : ℕ)
      → IsTaken w front back (ReplyToClass (Granted k number a serial)) → (e : OpenRecord)
      → w.pending k.0 a.0 ≡ Some e → e.request.request ≡ number
      → A u s
      (record w {
        mail = (front ++ back) ++ are_notified e.notifies;
        known = learning w.known k.0 e.request.wants;
        pending = put_at w.pending k.0 a.0 None;
      })
  -- a refusal names a component that its record wants, and that record is dropped
  pub was_wanted : (u : ℕ → ℕ) (s : State) (w : View) → A u s w → (front back : List Message)
      (k : ClassId) (number : ℕ) (a : InterId) (c : CompId) (used : ℕ)
      → IsTaken w front back (ReplyToClass (Refused k number a c used)) → (e : OpenRecord)
      → w.pending k.0 a.0 ≡ Some e → e.request.request ≡ number
      → Any (λ (v : Want). v.comp.0 ≡ c.0) e.request.wants
  pub refused : (u : ℕ → ℕ) (s : State) (w : View) → A u s w → (front back : List Message)
      (k : ClassId) (number : ℕ) (a : InterId) (c : CompId) (used : ℕ)
      → IsTaken w front back (ReplyToClass (Refused k number a c used)) → (e : OpenRecord)
      (learnt : ℕ → ℕ) → IsTaught w k number a c used e learnt
      → A u s
      (record w {
        mail = front ++ back;
        known = put w.known k.0 learnt;
        pending = put_at w.pending k.0 a.0 None;
      })
  -- a class grants a local interaction
  pub grants : (u : ℕ → ℕ) (s : State) (w : View) → A u s w → (k : ℕ) (o : ℕ → Offer) (g : Grant)
      → Takes p w k g.inter.0 o g.wants → WantedCount w k o g.wants
      → AreWantsBy p.model o g.inter.0 [] g.wants → ¬ IsReserved p g.inter.0
      → A (raised u g.wants) (after p.model s g.inter.0) (granting_to p w k g.inter.0 o g)
  -- or asks for a reserved one
  pub asks : (u : ℕ → ℕ) (s : State) (w : View) → A u s w → (o : ℕ → Offer) (q : Request)
      → Takes p w q.class.0 q.inter.0 o q.wants → WantedCount w q.class.0 o q.wants
      → AreWantsBy p.model o q.inter.0 q.reasons q.wants
      → All (λ (y : Why). IsTrueOf p.model o y.inter.0 y.cause) q.reasons
      → AreExplained p.model q.inter.0 q.wants q.reasons → IsReserved p q.inter.0
      → q.request ≡ w.next q.class.0 → A u s (asking_for p w q.class.0 q.inter.0 o q)
  -- the bank grants the oldest open request of an interaction
  pub serves : (u : ℕ → ℕ) (s : State) (w : View) → A u s w → (q : Request) (later : List Request)
      → w.waiting q.inter.0 ≡ q ∷ later → IsFresh w.used q.wants → (serial : ℕ)
      → A (raised u q.wants) (after p.model s q.inter.0)
      (record w {
        trace = w.trace ++ grant_of q ∷ [];
        used = raised w.used q.wants;
        grants = w.grants ++ grant_of q ∷ [];
        mail = w.mail ++ ReplyToClass (Granted q.class q.request q.inter serial) ∷ [];
        waiting = put w.waiting q.inter.0 later;
      })
  -- or refuses it, by the used number of a component that it wants
  pub refuses : (u : ℕ → ℕ) (s : State) (w : View) → A u s w → (q : Request) (later : List Request)
      → w.waiting q.inter.0 ≡ q ∷ later → (c : CompId) (used : ℕ) (v : Want) → In v q.wants
      → (v.comp.0 ≡ c.0) × (v.number ≤ w.used c.0) → used ≡ w.used c.0
      → A u s
      (record w {
        mail = w.mail ++ ReplyToClass (Refused q.class q.request q.inter c used) ∷ [];
        waiting = put w.waiting q.inter.0 later;
      })

-- what is kept of messages is some of them
in-kept : {xs ys : List Message} (m : Message) → AreKeptOf xs ys → In m xs → In m ys
in-kept m all_done at = absurd at
in-kept m (one_kept rest) at = elim at [
  | inl first ↦ inl first
  | inr later ↦ inr (in-kept m rest later)
]
in-kept m (one_lost rest) at = inr (in-kept m rest at)

count-kept : {xs ys : List Message} (test : Message → Bool) → AreKeptOf xs ys
    → count test xs ≤ count test ys
count-kept test all_done = omega arith
count-kept test (one_kept rest) = omega (arith, count-kept test rest)
count-kept test (one_lost rest) = omega (arith, count-kept test rest)

module _ {p : Planned} {base : ℕ} {A : (ℕ → ℕ) → State → View → Type 0}
    (keep : KeepsSteps p base A) where
  -- a message is taken out, and nothing else
  pub taken : (u : ℕ → ℕ) (s : State) (w : View) → A u s w → (front back : List Message)
      (m : Message) → IsTaken w front back m → A u s (record w { mail = front ++ back })
  taken u s w h front back m whole =
      keep.fewer u s w h (front ++ back)
      (λ x at. subst (λ (xs : List Message). In x xs) (sym whole) (in-wider x m front back at))
      (λ test. no_more test w.mail front back m whole)

  -- nothing is sent
  pub unsent : (u : ℕ → ℕ) (s : State) (w : View) → A u s w
      → A u s (record w { mail = w.mail ++ [] })
  unsent u s w h =
      keep.fewer u s w h (w.mail ++ [])
      (λ m at. elim (in-split m w.mail [] at) [
        | inl old ↦ old
        | inr none ↦ absurd none
      ])
      (λ test. omega (arith, count-append test w.mail []))

  -- what is lost of what was sent is taken out again
  pub loses : (u : ℕ → ℕ) (s : State) (w : View) (sends put : List Message) → AreKeptOf put sends
      → A u s (record w { mail = w.mail ++ sends }) → A u s (record w { mail = w.mail ++ put })
  loses u s w sends put kept h =
      keep.fewer u s (record w { mail = w.mail ++ sends }) h (w.mail ++ put)
      (λ m at. elim (in-split m w.mail put at) [
        | inl old ↦ in-front m w.mail sends old
        | inr new ↦ in-back m w.mail sends (in-kept m kept new)
      ])
      (λ test.
      let before = count-append test w.mail sends in
      let after = count-append test w.mail put in
      omega (arith, before, after, count-kept test kept))

  -- the grant names the interaction
  pub grants_named : (u : ℕ → ℕ) (s : State) (w : View) → A u s w → (k a : ℕ) (o : ℕ → Offer)
      (g : Grant) → g.inter.0 ≡ a → Takes p w k a o g.wants → WantedCount w k o g.wants
      → AreWantsBy p.model o a [] g.wants → ¬ IsReserved p a
      → A (raised u g.wants) (after p.model s g.inter.0) (granting_to p w k a o g)
  grants_named u s w h k a o g names takes counts by local =
      subst
      (λ (b : ℕ). Takes p w k b o g.wants → AreWantsBy p.model o b [] g.wants → ¬ IsReserved p b
      → A (raised u g.wants) (after p.model s g.inter.0) (granting_to p w k b o g))
      names (λ takes by local. keep.grants u s w h k o g takes counts by local) takes by local

  -- the request names the class and the interaction
  pub asks_named : (u : ℕ → ℕ) (s : State) (w : View) → A u s w → (k a : ℕ) (o : ℕ → Offer)
      (q : Request) → q.class.0 ≡ k → q.inter.0 ≡ a → Takes p w k a o q.wants
      → WantedCount w k o q.wants → AreWantsBy p.model o a q.reasons q.wants
      → All (λ (y : Why). IsTrueOf p.model o y.inter.0 y.cause) q.reasons
      → AreExplained p.model a q.wants q.reasons → IsReserved p a → q.request ≡ w.next k
      → A u s (asking_for p w k a o q)
  asks_named u s w h k a o q class inter takes counts by so explained is_reserved number =
      subst (asks_at k) inter
      (subst (λ (j : ℕ). asks_at j q.inter.0) class
      (λ takes counts by explained is_reserved number.
      keep.asks u s w h o q takes counts by so explained is_reserved number))
      takes counts by explained is_reserved number
    where
      asks_at : ℕ → ℕ → Type 0
      asks_at j b =
          Takes p w j b o q.wants → WantedCount w j o q.wants
          → AreWantsBy p.model o b q.reasons q.wants → AreExplained p.model b q.wants q.reasons
          → IsReserved p b → q.request ≡ w.next j → A u s (asking_for p w j b o q)
