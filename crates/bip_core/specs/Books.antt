-- Books: how used numbers, records and requests agree with the trace.
use Rattle.std.specs.Prelude.{◌≡◌, ◌⊎◌, ℕ, ⊤, ◌+◌, ◌<◌, ◌≤◌, ◌==◌, Bool, false, List, [], ◌∷◌}
use Rattle.std.specs.Prelude.{length, Any, Option, Some}
use Rattle.bip_model.specs.Grants.{IsHistory, used_by}
use Rattle.bip_model.specs.Parties.{AreExplained, AreParties}
use Rattle.bip_model.specs.Partitions.{class_in}
use Rattle.bip_model.specs.Wants.{moved_in}
use Rattle.bip_model.specs.declared.grants.Grant.{Grant}
use Rattle.bip_model.specs.declared.messages.Reply.{Reply}
use Rattle.bip_model.specs.declared.messages.Reply.TheVariants.{Granted, Refused}
use Rattle.bip_model.specs.declared.messages.Request.{Request}
use Rattle.bip_model.specs.declared.wants.Want.{Want}
use Rattle.bip_partition.specs.Plans.{IsReserved, IsTabled, Planned, Touches}
use Rattle.bip_ip.specs.declared.nodes.OpenRecord.{OpenRecord}
use Rattle.bip_bank.specs.Decisions.{grant_of}
use Rattle.bip_core.specs.declared.messages.Message.{Message}
use Rattle.bip_core.specs.declared.messages.Message.TheVariants.{NotifyComponent, OfferTo}
use Rattle.bip_core.specs.declared.messages.Message.TheVariants.{ReplyToClass, RequestToBank}
use Rattle.bip_core.specs.Lists.{In, count}
use Rattle.bip_core.specs.Views.{View}

-- a message is about an interaction: a request for it, or a reply to one
abbrev pub is_about : ℕ → Message → Bool
is_about a (RequestToBank q) = q.inter.0 == a
is_about a (ReplyToClass (Granted k n b serial)) = b.0 == a
is_about a (ReplyToClass (Refused k n b c used)) = b.0 == a
is_about a (OfferTo k o) = false
is_about a (NotifyComponent n) = false

-- the second grants are those of the first whose interactions are reserved, in order
pub data AreReserved (p : Planned) : List Grant → List Grant → Type 0 where
  no_grant : AreReserved p [] []
  reserved : {g : Grant} {gs hs : List Grant} → IsReserved p g.inter.0 → AreReserved p gs hs
      → AreReserved p (g ∷ gs) (g ∷ hs)
  local : {g : Grant} {gs hs : List Grant} → ¬ IsReserved p g.inter.0 → AreReserved p gs hs
      → AreReserved p (g ∷ gs) hs

-- a request has its record, which isn't granted
pub record HasRecord (trace : List Grant) (pending : ℕ → ℕ → Option OpenRecord) (q : Request)
    : Type 0 where
  pub entry : OpenRecord
  pub is : pending q.class.0 q.inter.0 ≡ Some entry
  pub same : entry.request ≡ q
  pub not_granted : ¬ In (grant_of q) trace

-- a reply to a request of a class, by number and interaction, has its record, of which this holds
pub record HasReplied (pending : ℕ → ℕ → Option OpenRecord) (class number inter : ℕ)
    (P : OpenRecord → Type 0) : Type 0 where
  pub entry : OpenRecord
  pub is : pending class inter ≡ Some entry
  pub same : entry.request.request ≡ number
  pub so : P entry

-- a refused record isn't granted, and wants a component with no more than this used number of it,
-- which isn't above that of the trace
pub record IsDenied (u : ℕ → ℕ) (trace : List Grant) (c used : ℕ) (e : OpenRecord) : Type 0 where
  pub used_up : used ≤ u c
  pub not_granted : ¬ In (grant_of e.request) trace
  pub wanted : Any (λ (w : Want). (w.comp.0 ≡ c) × (w.number ≤ used)) e.request.wants

-- a reply has its record, and grants it just where it is granted
abbrev pub ReplyFits : (ℕ → ℕ) → List Grant → (ℕ → ℕ → Option OpenRecord) → Reply → Type 0
ReplyFits u trace pending (Granted k n a serial) =
    HasReplied pending k.0 n a.0 (λ e. In (grant_of e.request) trace)
ReplyFits u trace pending (Refused k n a c used) =
    HasReplied pending k.0 n a.0 (IsDenied u trace c.0 used)

-- each message about an interaction has its record, and each notification is of a grant
abbrev pub MailFits : (ℕ → ℕ) → List Grant → (ℕ → ℕ → Option OpenRecord) → Message → Type 0
MailFits u trace pending (RequestToBank q) = HasRecord trace pending q
MailFits u trace pending (ReplyToClass r) = ReplyFits u trace pending r
MailFits u trace pending (NotifyComponent n) =
    (g : Grant) × In g trace × (moved_in g.wants n.comp.0 ≡ n.number)
MailFits u trace pending (OfferTo k o) = ⊤

-- a record that a class keeps of an interaction is of a reserved one of its own, for its parties,
-- with reasons, and with a number before the class's next one
pub record RecordFits (p : Planned) (next : ℕ → ℕ) (k a : ℕ) (e : OpenRecord) : Type 0 where
  pub class : e.request.class.0 ≡ k
  pub number : e.request.inter.0 ≡ a
  pub home : class_in p.classes a ≡ k
  pub reserved : IsReserved p a
  pub wants : AreParties p.model a e.request.wants
  pub explained : AreExplained p.model a e.request.wants e.request.reasons
  pub below : e.request.request < next k

-- the record of a grant waits for its reply, or its class knows what the grant moved
abbrev pub IsKnownOrPending : Planned → (ℕ → ℕ → ℕ) → (ℕ → ℕ → Option OpenRecord) → Grant → Type 0
IsKnownOrPending p known pending g =
    ((e : OpenRecord) × (pending (class_in p.classes g.inter.0) g.inter.0 ≡ Some e)
    × (grant_of e.request ≡ g))
    ⊎ ((c : ℕ) → moved_in g.wants c ≤ known (class_in p.classes g.inter.0) c)

-- books agree with a trace that has these used numbers: it is a history of parties, and its
-- reserved grants are the bank's; the bank's used numbers, and those that classes know, are as the
-- trace has them; each record fits, and what is about an interaction stands once, with its record
pub record BooksAgree (p : Planned) (base : ℕ) (u : ℕ → ℕ) (w : View) : Type 0 where
  pub used_is : used_by (λ c. base) w.trace ≡ u
  pub history : IsHistory (λ c. base) w.trace
  pub fit : (g : Grant) → In g w.trace → AreParties p.model g.inter.0 g.wants
  pub bank_grants : AreReserved p w.trace w.grants
  pub bank_used : (c : ℕ) → IsTabled p c → w.used c ≡ u c
  pub at_most : (k c : ℕ) → w.known k c ≤ u c
  pub alone : (a c : ℕ) → Touches p.model a c → ¬ IsTabled p c
      → w.known (class_in p.classes a) c ≡ u c
  pub own : (g : Grant) → In g w.trace → IsKnownOrPending p w.known w.pending g
  pub records : (k a : ℕ) (e : OpenRecord) → w.pending k a ≡ Some e → RecordFits p w.next k a e
  pub apart : (k a b : ℕ) (e f : OpenRecord) → w.pending k a ≡ Some e → w.pending k b ≡ Some f
      → e.request.request ≡ f.request.request → a ≡ b
  pub mail : (m : Message) → In m w.mail → MailFits u w.trace w.pending m
  pub waiting : (a : ℕ) (q : Request) → In q (w.waiting a)
      → HasRecord w.trace w.pending q × (q.inter.0 ≡ a)
  pub once : (a : ℕ) → count (is_about a) w.mail + length (w.waiting a) ≤ 1
