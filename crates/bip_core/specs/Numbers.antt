-- Numbers: how the components' own numbers agree with the used numbers of the trace.
use Rattle.std.specs.Prelude.{◌≡◌, ℕ, ⊤, ◌+◌, ◌≤◌, ◌==◌, Bool, true, false, Some}
use Rattle.bip_model.specs.Numbering.{last_number}
use Rattle.bip_model.specs.Steps.{moves}
use Rattle.bip_model.specs.declared.messages.Notify.{Notify}
use Rattle.bip_model.specs.declared.messages.Offer.{Offer}
use Rattle.bip_model.specs.declared.parts.System.{System}
use Rattle.bip_model.specs.declared.wants.Want.{Want}
use Rattle.bip_ip.specs.declared.nodes.OpenRecord.{OpenRecord}
use Rattle.bip_bank.specs.Decisions.{grant_of}
use Rattle.bip_core.specs.declared.messages.Message.{Message}
use Rattle.bip_core.specs.declared.messages.Message.TheVariants.{NotifyComponent, OfferTo}
use Rattle.bip_core.specs.declared.messages.Message.TheVariants.{ReplyToClass, RequestToBank}
use Rattle.bip_core.specs.Lists.{In, count}
use Rattle.bip_core.specs.Views.{View}

-- a message is a notification for a component
abbrev pub is_for : ℕ → Message → Bool
is_for c (NotifyComponent n) = n.comp.0 == c
is_for c (RequestToBank q) = false
is_for c (ReplyToClass r) = false
is_for c (OfferTo k o) = false

-- a notification is awaited: its component isn't spent, its own number is the used one, and it is
-- told just that
pub record IsAwaited (u : ℕ → ℕ) (number : ℕ → ℕ) (spent : ℕ → Bool) (n : Notify) : Type 0 where
  pub own : n.number ≡ number n.comp.0
  pub used : number n.comp.0 ≡ u n.comp.0
  pub unspent : spent n.comp.0 ≡ false

-- each notification in flight is awaited, and no offer has a number above its component's
abbrev pub MailAwaited : (ℕ → ℕ) → (ℕ → ℕ) → (ℕ → Bool) → Message → Type 0
MailAwaited u number spent (NotifyComponent n) = IsAwaited u number spent n
MailAwaited u number spent (OfferTo k o) = o.number ≤ number o.comp.0
MailAwaited u number spent (RequestToBank q) = ⊤
MailAwaited u number spent (ReplyToClass r) = ⊤

-- what a record wants isn't above the components' own numbers; and what it tells is of components
-- that its interaction moves, with the numbers that it wants them with, and of none twice
pub record RecordNumbers (m : System) (number : ℕ → ℕ) (e : OpenRecord) : Type 0 where
  pub wants : (w : Want) → In w e.request.wants → w.number ≤ number w.comp.0
  pub tells : (n : Notify) → In n e.notifies → moves m e.request.inter.0 n.comp.0 ≡ true
  pub same : (n : Notify) → In n e.notifies
      → (w : Want) × In w e.request.wants × (w.comp.0 ≡ n.comp.0) × (w.number ≡ n.number)
  pub once : (c : ℕ) → count (λ (n : Notify). n.comp.0 == c) e.notifies ≤ 1

-- a notification is owed: its record is granted, and the reply to it is still to come
pub record IsOwed (w : View) (k a : ℕ) (e : OpenRecord) (n : Notify) : Type 0 where
  pub is : w.pending k a ≡ Some e
  pub granted : In (grant_of e.request) w.trace
  pub tells : In n e.notifies

-- own numbers agree with used ones: each is the used one, or the next; a spent component used the
-- last one; and what is told, in flight or owed, is awaited, and told once
pub record NumbersAgree (m : System) (u : ℕ → ℕ) (w : View) : Type 0 where
  pub low : (c : ℕ) → u c ≤ w.number c
  pub high : (c : ℕ) → w.number c ≤ u c + 1
  pub limit : (c : ℕ) → w.number c ≤ last_number
  pub spent : (c : ℕ) → w.spent c ≡ true → (w.number c ≡ u c) × (u c ≡ last_number)
  pub mail : (m : Message) → In m w.mail → MailAwaited u w.number w.spent m
  pub once : (c : ℕ) → count (is_for c) w.mail ≤ 1
  pub held : (k c : ℕ) (o : Offer) → w.held k c ≡ Some o
      → (o.comp.0 ≡ c) × (o.number ≤ w.number c)
  pub records : (k a : ℕ) (e : OpenRecord) → w.pending k a ≡ Some e → RecordNumbers m w.number e
  pub owed : (k a : ℕ) (e : OpenRecord) (n : Notify) → IsOwed w k a e n
      → IsAwaited u w.number w.spent n × (count (is_for n.comp.0) w.mail ≡ 0)
