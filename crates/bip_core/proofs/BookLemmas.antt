-- Each small step of a world keeps the books: used numbers, records and requests. An event is a
-- chain of such steps.
use Rattle.std.proofs.Common.{◌≡◌, ℕ, ◌+◌, ◌≤◌, List, [], ◌∷◌, ◌++◌, Bool, true, length, Option}
use Rattle.std.proofs.Common.{Some, None, refl, sym, ap, ◌∙◌, subst, inl, inr, arith}
use Rattle.std.proofs.lemmas.Bool.{eq-eqb, eqb-true, true≢false}
use Rattle.std.proofs.lemmas.Option.{none-some, same_Some}
use Rattle.bip_model.proofs.HistoryLemmas.{used_by-push}
use Rattle.bip_model.specs.Parties.{AreParties}
use Rattle.bip_model.specs.Partitions.{class_in}
use Rattle.bip_model.specs.States.{State}
use Rattle.bip_model.specs.Wants.{IsFresh, moved_in, raised}
use Rattle.bip_model.specs.declared.grants.Grant.{Grant}
use Rattle.bip_model.specs.declared.messages.Offer.{Offer}
use Rattle.bip_model.specs.declared.messages.Reply.TheVariants.{Granted, Refused}
use Rattle.bip_model.specs.declared.messages.Request.{Request}
use Rattle.bip_partition.specs.Plans.{IsReserved, IsTabled, Planned, Touches}
use Rattle.bip_bank.specs.Decisions.{grant_of}
use Rattle.bip_ip.specs.declared.nodes.OpenRecord.{OpenRecord}
use Rattle.bip_core.specs.declared.messages.Message.{Message}
use Rattle.bip_core.specs.declared.messages.Message.TheVariants.{NotifyComponent, OfferTo}
use Rattle.bip_core.specs.declared.messages.Message.TheVariants.{ReplyToClass, RequestToBank}
use Rattle.bip_core.specs.Lists.{In, count, put_at}
use Rattle.bip_core.specs.Books.{AreReserved, BooksAgree, HasRecord, IsKnownOrPending, MailFits}
use Rattle.bip_core.specs.Books.{RecordFits, is_about, local, no_grant, reserved}
use Rattle.bip_core.specs.Views.{View}
use Rattle.bip_core.proofs.ListLemmas.{count-append, count-none, count-some, in-front, in-one}
use Rattle.bip_core.proofs.ListLemmas.{in-split, length-none, length-some}
use Rattle.bip_core.proofs.PutLemmas.{at_same, put_at_apart, put_at_cases, put_at_other, taken_at}
use Rattle.bip_core.proofs.UsedLemmas.{history-push}

-- a grant joins the trace, and the reserved ones if it is reserved
pub reserved_joins : {p : Planned} {gs hs : List Grant} (g : Grant) → IsReserved p g.inter.0
    → AreReserved p gs hs → AreReserved p (gs ++ g ∷ []) (hs ++ g ∷ [])
reserved_joins g is no_grant = reserved is no_grant
reserved_joins g is (reserved first rest) = reserved first (reserved_joins g is rest)
reserved_joins g is (local first rest) = local first (reserved_joins g is rest)

-- or only the trace, if it is local
pub local_joins : {p : Planned} {gs hs : List Grant} (g : Grant) → ¬ IsReserved p g.inter.0
    → AreReserved p gs hs → AreReserved p (gs ++ g ∷ []) hs
local_joins g isnt no_grant = local isnt no_grant
local_joins g isnt (reserved first rest) = reserved first (local_joins g isnt rest)
local_joins g isnt (local first rest) = local first (local_joins g isnt rest)

-- nothing is about an interaction: no request for it, in flight or open, and no reply
abbrev pub NothingAbout : View → ℕ → Type 0
NothingAbout w a = count (is_about a) w.mail + length (w.waiting a) ≡ 0

-- a grant may join: it is fresh, of parties, and nothing is about its interaction; and what classes
-- and the bank know then is as the trace has it
pub record Joins (p : Planned) (u : ℕ → ℕ) (w : View) (g : Grant) (known : ℕ → ℕ → ℕ)
    (used : ℕ → ℕ) (grants : List Grant) : Type 0 where
  pub fresh : IsFresh u g.wants
  pub parties : AreParties p.model g.inter.0 g.wants
  pub nothing : NothingAbout w g.inter.0
  pub more : (k c : ℕ) → w.known k c ≤ known k c
  pub at_most : (k c : ℕ) → known k c ≤ raised u g.wants c
  pub alone : (a c : ℕ) → Touches p.model a c → ¬ IsTabled p c
      → known (class_in p.classes a) c ≡ raised u g.wants c
  pub own : IsKnownOrPending p known w.pending g
  pub bank_used : (c : ℕ) → IsTabled p c → used c ≡ raised u g.wants c
  pub bank_grants : AreReserved p (w.trace ++ g ∷ []) grants

module _ {p : Planned} {base : ℕ} {u : ℕ → ℕ} {w : View} (h : BooksAgree p base u w) where
  -- messages are lost or taken out
  pub fewer : {mail : List Message} → ((m : Message) → In m mail → In m w.mail)
      → ((a : ℕ) → count (is_about a) mail ≤ count (is_about a) w.mail)
      → BooksAgree p base u (record w { mail = mail })
  fewer among less = record {
    used_is = h.used_is;
    history = h.history;
    fit = h.fit;
    bank_grants = h.bank_grants;
    bank_used = h.bank_used;
    at_most = h.at_most;
    alone = h.alone;
    own = h.own;
    records = h.records;
    apart = h.apart;
    waiting = h.waiting;
    mail = λ m at. h.mail m (among m at);
    once = λ a. omega (arith, less a, h.once a);
  }

  -- messages are put last
  pub sent : (ms : List Message) → ((m : Message) → In m ms → MailFits u w.trace w.pending m)
      → ((a : ℕ) → count (is_about a) w.mail + count (is_about a) ms + length (w.waiting a) ≤ 1)
      → BooksAgree p base u (record w { mail = w.mail ++ ms })
  sent ms fits once = record {
    used_is = h.used_is;
    history = h.history;
    fit = h.fit;
    bank_grants = h.bank_grants;
    bank_used = h.bank_used;
    at_most = h.at_most;
    alone = h.alone;
    own = h.own;
    records = h.records;
    apart = h.apart;
    waiting = h.waiting;
    mail = λ m at. elim (in-split m w.mail ms at) [
      | inl old ↦ h.mail m old
      | inr new ↦ fits m new
    ];
    once = λ a. omega (arith, once a, count-append (is_about a) w.mail ms);
  }

  -- the open requests change
  pub queued : {waiting : ℕ → List Request}
      → ((a : ℕ) (q : Request) → In q (waiting a)
      → HasRecord w.trace w.pending q × (q.inter.0 ≡ a))
      → ((a : ℕ) → count (is_about a) w.mail + length (waiting a) ≤ 1)
      → BooksAgree p base u (record w { waiting = waiting })
  queued fits once = record {
    used_is = h.used_is;
    history = h.history;
    fit = h.fit;
    bank_grants = h.bank_grants;
    bank_used = h.bank_used;
    at_most = h.at_most;
    alone = h.alone;
    own = h.own;
    records = h.records;
    apart = h.apart;
    mail = h.mail;
    waiting = fits;
    once = once;
  }

  -- what a class knew it knows, where no known number falls
  still_known : {known : ℕ → ℕ → ℕ} (g : Grant) → ((k c : ℕ) → w.known k c ≤ known k c)
      → IsKnownOrPending p w.known w.pending g → IsKnownOrPending p known w.pending g
  still_known g more (inl waits) = inl waits
  still_known g more (inr knows) =
      inr (λ c. omega (arith, knows c, more (class_in p.classes g.inter.0) c))

  -- a class learns a greater used number, which isn't above the true one
  pub learned : {known : ℕ → ℕ → ℕ} → ((k c : ℕ) → w.known k c ≤ known k c)
      → ((k c : ℕ) → known k c ≤ u c) → BooksAgree p base u (record w { known = known })
  learned more at_most = record {
    used_is = h.used_is;
    history = h.history;
    fit = h.fit;
    bank_grants = h.bank_grants;
    bank_used = h.bank_used;
    records = h.records;
    apart = h.apart;
    mail = h.mail;
    waiting = h.waiting;
    once = h.once;
    at_most = at_most;
    alone = λ a c touches untabled.
        let k = class_in p.classes a in
        omega (arith, h.alone a c touches untabled, more k c, at_most k c);
    own = λ g at. still_known g more (h.own g at);
  }

  -- what the books do not speak of
  pub elsewhere : {state : State} {number : ℕ → ℕ} {spent : ℕ → Bool}
      {held : ℕ → ℕ → Option Offer}
      → BooksAgree p base u
      (record w { state = state; number = number; spent = spent; held = held })
  elsewhere = record {
    used_is = h.used_is;
    history = h.history;
    fit = h.fit;
    bank_grants = h.bank_grants;
    bank_used = h.bank_used;
    at_most = h.at_most;
    alone = h.alone;
    own = h.own;
    records = h.records;
    apart = h.apart;
    mail = h.mail;
    waiting = h.waiting;
    once = h.once;
  }

  not_about : (a : ℕ) → NothingAbout w a → (m : Message) → In m w.mail → ¬ (is_about a m ≡ true)
  not_about a nothing m at about = omega (arith, nothing, count-some (is_about a) m w.mail at about)

  not_open : (a : ℕ) → NothingAbout w a → (b : ℕ) (q : Request) → In q (w.waiting b)
      → ¬ (q.inter.0 ≡ a)
  not_open a nothing b q at same =
      let some = length-some q (w.waiting b) at in
      let queue = sym (h.waiting b q at).1 ∙ same in
      omega (arith, nothing, some, ap (λ (c : ℕ). length (w.waiting c)) queue)

  -- what is about an interaction has its record
  record_of : (a : ℕ) (m : Message) → In m w.mail → is_about a m ≡ true
      → (k : ℕ) × (e : OpenRecord) × (w.pending k a ≡ Some e)
  record_of a (OfferTo k o) at about = absurd (true≢false (sym about))
  record_of a (NotifyComponent n) at about = absurd (true≢false (sym about))
  record_of a (RequestToBank q) at about =
      let has = h.mail (RequestToBank q) at in
      let same = ap (w.pending q.class.0) (eqb-true q.inter.0 a about) in
      (q.class.0, has.entry, sym same ∙ has.is)
  record_of a (ReplyToClass (Granted k n b serial)) at about =
      let replied = h.mail (ReplyToClass (Granted k n b serial)) at in
      (k.0, replied.entry, sym (ap (w.pending k.0) (eqb-true b.0 a about)) ∙ replied.is)
  record_of a (ReplyToClass (Refused k n b c number)) at about =
      let replied = h.mail (ReplyToClass (Refused k n b c number)) at in
      (k.0, replied.entry, sym (ap (w.pending k.0) (eqb-true b.0 a about)) ∙ replied.is)

  -- so nothing is about an interaction without one
  pub nothing_about : (a : ℕ) → ((k : ℕ) (e : OpenRecord) → ¬ (w.pending k a ≡ Some e))
      → NothingAbout w a
  nothing_about a free =
      let none = count-none (is_about a) w.mail not_in_flight in
      omega (arith, none, length-none (w.waiting a) not_waiting)
    where
      not_in_flight : (m : Message) → In m w.mail → ¬ (is_about a m ≡ true)
      not_in_flight m at about = let (k, e, is) = record_of a m at about in free k e is

      not_waiting : (q : Request) → ¬ In q (w.waiting a)
      not_waiting q at =
          let (has, same) = h.waiting a q at in
          free q.class.0 has.entry (sym (ap (w.pending q.class.0) same) ∙ has.is)

  -- a grant joins the trace
  module _ {g : Grant} {known : ℕ → ℕ → ℕ} {used : ℕ → ℕ} {grants : List Grant}
      (joins : Joins p u w g known used grants) where
    -- what isn't of its interaction isn't granted by it
    not_yet : (f : Grant) → ¬ In f w.trace → ¬ (f.inter.0 ≡ g.inter.0) → ¬ In f (w.trace ++ g ∷ [])
    not_yet f not_granted other at = elim (in-split f w.trace (g ∷ []) at) [
      | inl old ↦ not_granted old
      | inr new ↦ other (ap (λ (x : Grant). x.inter.0) (in-one f g new))
    ]

    not_of_it : (m : Message) → In m w.mail → ¬ (is_about g.inter.0 m ≡ true)
    not_of_it = not_about g.inter.0 joins.nothing

    has_after : (q : Request) → HasRecord w.trace w.pending q → ¬ (q.inter.0 ≡ g.inter.0)
        → HasRecord (w.trace ++ g ∷ []) w.pending q
    has_after q has other = record {
      entry = has.entry;
      is = has.is;
      same = has.same;
      not_granted = not_yet (grant_of q) has.not_granted other;
    }

    mail_after : (m : Message) → In m w.mail → MailFits u w.trace w.pending m
        → MailFits (raised u g.wants) (w.trace ++ g ∷ []) w.pending m
    mail_after (OfferTo k o) at fits = tt
    mail_after (NotifyComponent n) at (f, in_trace, moved) =
        (f, in-front f w.trace (g ∷ []) in_trace, moved)
    mail_after (RequestToBank q) at has =
        has_after q has (λ same. not_of_it (RequestToBank q) at (eq-eqb q.inter.0 g.inter.0 same))
    mail_after (ReplyToClass (Granted k n a serial)) at replied = record {
      entry = replied.entry;
      is = replied.is;
      same = replied.same;
      so = in-front (grant_of replied.entry.request) w.trace (g ∷ []) replied.so;
    }
    mail_after (ReplyToClass (Refused k n a c number)) at replied =
        let its = h.records k.0 a.0 replied.entry replied.is in
        record {
          entry = replied.entry;
          is = replied.is;
          same = replied.same;
          so = record {
            used_up = omega (arith, replied.so.used_up);
            not_granted =
                not_yet (grant_of replied.entry.request) replied.so.not_granted
                (λ same. not_of_it (ReplyToClass (Refused k n a c number)) at
                (eq-eqb a.0 g.inter.0 (sym its.number ∙ same)));
            wanted = replied.so.wanted;
          };
        }

    -- so the books are kept
    pub granted : BooksAgree p base (raised u g.wants)
        (record w { trace = w.trace ++ g ∷ []; known = known; used = used; grants = grants })
    granted = record {
      used_is =
          used_by-push (λ c. base) w.trace g ∙ ap (λ (v : ℕ → ℕ). raised v g.wants) h.used_is;
      history =
          history-push (λ c. base) w.trace g h.history
          (subst (λ (v : ℕ → ℕ). IsFresh v g.wants) (sym h.used_is) joins.fresh);
      fit = λ f at. elim (in-split f w.trace (g ∷ []) at) [
        | inl old ↦ h.fit f old
        | inr new ↦
            subst (λ (x : Grant). AreParties p.model x.inter.0 x.wants) (sym (in-one f g new))
            joins.parties
      ];
      bank_grants = joins.bank_grants;
      bank_used = joins.bank_used;
      at_most = joins.at_most;
      alone = joins.alone;
      own = λ f at. elim (in-split f w.trace (g ∷ []) at) [
        | inl old ↦ still_known f joins.more (h.own f old)
        | inr new ↦ subst (IsKnownOrPending p known w.pending) (sym (in-one f g new)) joins.own
      ];
      records = h.records;
      apart = h.apart;
      mail = λ m at. mail_after m at (h.mail m at);
      waiting = λ a q at.
          let (has, home) = h.waiting a q at in
          (has_after q has (not_open g.inter.0 joins.nothing a q at), home);
      once = h.once;
    }

  -- records change, but not one that a message or an open request is about
  has_still : {pending : ℕ → ℕ → Option OpenRecord} (q : Request)
      → pending q.class.0 q.inter.0 ≡ w.pending q.class.0 q.inter.0
      → HasRecord w.trace w.pending q → HasRecord w.trace pending q
  has_still q left has = record {
    entry = has.entry;
    is = left ∙ has.is;
    same = has.same;
    not_granted = has.not_granted;
  }

  mail_still : {pending : ℕ → ℕ → Option OpenRecord} (m : Message)
      → ((k a : ℕ) (e : OpenRecord) → is_about a m ≡ true → w.pending k a ≡ Some e
      → pending k a ≡ w.pending k a)
      → MailFits u w.trace w.pending m → MailFits u w.trace pending m
  mail_still (OfferTo k o) left fits = tt
  mail_still (NotifyComponent n) left fits = fits
  mail_still (RequestToBank q) left has =
      has_still q (left q.class.0 q.inter.0 has.entry (eq-eqb q.inter.0 q.inter.0 refl) has.is) has
  mail_still (ReplyToClass (Granted k n a serial)) left replied = record {
    entry = replied.entry;
    is = left k.0 a.0 replied.entry (eq-eqb a.0 a.0 refl) replied.is ∙ replied.is;
    same = replied.same;
    so = replied.so;
  }
  mail_still (ReplyToClass (Refused k n a c number)) left replied = record {
    entry = replied.entry;
    is = left k.0 a.0 replied.entry (eq-eqb a.0 a.0 refl) replied.is ∙ replied.is;
    same = replied.same;
    so = replied.so;
  }

  -- a record goes, once its moved numbers are known if it is granted
  pub removed : {k a : ℕ} {e : OpenRecord} → w.pending k a ≡ Some e → NothingAbout w a
      → (In (grant_of e.request) w.trace → (c : ℕ) → moved_in e.request.wants c ≤ w.known k c)
      → BooksAgree p base u (record w { pending = put_at w.pending k a None })
  removed {k} {a} {e} is nothing learnt = record {
    used_is = h.used_is;
    history = h.history;
    fit = h.fit;
    bank_grants = h.bank_grants;
    bank_used = h.bank_used;
    at_most = h.at_most;
    alone = h.alone;
    once = h.once;
    own = λ g at. own_after g at (h.own g at);
    records = λ j b f at. h.records j b f (was_there j b f at);
    apart = λ j b d f g at_b at_d same.
        h.apart j b d f g (was_there j b f at_b) (was_there j d g at_d) same;
    mail = λ m at.
        mail_still m
        (λ j b f about there. left j b
        (λ same. not_about a nothing m at (ap (λ (c : ℕ). is_about c m) (sym same) ∙ about)))
        (h.mail m at);
    waiting = λ b q at.
        let (has, home) = h.waiting b q at in
        (has_still q (left q.class.0 q.inter.0 (not_open a nothing b q at)) has, home);
  }
    where
      was_there : (j b : ℕ) (f : OpenRecord) → put_at w.pending k a None j b ≡ Some f
          → w.pending j b ≡ Some f
      was_there j b f at = (taken_at w.pending k a j b f at).1

      left : (j b : ℕ) → ¬ (b ≡ a) → put_at w.pending k a None j b ≡ w.pending j b
      left j b other = put_at_other w.pending k a None j b (λ _. other)

      own_after : (g : Grant) → In g w.trace → IsKnownOrPending p w.known w.pending g
          → IsKnownOrPending p w.known (put_at w.pending k a None) g
      own_after g at (inr knows) = inr knows
      own_after g at (inl (f, there, same)) =
          let home = class_in p.classes g.inter.0 in
          elim (put_at_apart w.pending k a None home g.inter.0) [
            | inl here ↦
                let there_too = sym (at_same w.pending here.0 here.1) ∙ there in
                let its = same_Some e f (sym is ∙ there_too) in
                let grants = ap (λ (r : OpenRecord). grant_of r.request) its ∙ same in
                inr (subst (knows g) (sym here.0) (learnt_of g grants at))
            | inr other ↦ inl (f, other ∙ there, same)
          ]
        where
          knows : Grant → ℕ → Type 0
          knows x j = (c : ℕ) → moved_in x.wants c ≤ w.known j c

          learnt_of : (x : Grant) → grant_of e.request ≡ x → In x w.trace → knows x k
          learnt_of x same = subst (λ (y : Grant). In y w.trace → knows y k) same learnt

  -- a record comes, with a number that no record of its class has
  pub recorded : {k a : ℕ} {e : OpenRecord} {next : ℕ → ℕ} → w.pending k a ≡ None
      → ((j : ℕ) → w.next j ≤ next j) → RecordFits p next k a e → w.next k ≤ e.request.request
      → BooksAgree p base u (record w { pending = put_at w.pending k a (Some e); next = next })
  recorded {k} {a} {e} {next} free later fits new = record {
    used_is = h.used_is;
    history = h.history;
    fit = h.fit;
    bank_grants = h.bank_grants;
    bank_used = h.bank_used;
    at_most = h.at_most;
    alone = h.alone;
    once = h.once;
    own = λ g at. own_after g (h.own g at);
    records = λ j b f at. elim (put_at_cases w.pending k a e j b f at) [
      | inl here ↦ fits_here j b f here.0 here.1 here.2
      | inr old ↦
          let its = h.records j b f old in
          record {
            class = its.class;
            number = its.number;
            home = its.home;
            reserved = its.reserved;
            wants = its.wants;
            explained = its.explained;
            below = omega (arith, later j, its.below);
          }
    ];
    apart = λ j b d f g at_b at_d same. elim (put_at_cases w.pending k a e j b f at_b) [
      | inl first ↦ elim (put_at_cases w.pending k a e j d g at_d) [
        | inl second ↦ first.1 ∙ sym second.1
        | inr old ↦ absurd (new_number j d g first.0 old (ap number first.2 ∙ same))
      ]
      | inr old ↦ elim (put_at_cases w.pending k a e j d g at_d) [
        | inl second ↦ absurd (new_number j b f second.0 old (ap number second.2 ∙ sym same))
        | inr older ↦ h.apart j b d f g old older same
      ]
    ];
    mail = λ m at. mail_still m (λ j b f about there. left j b f there) (h.mail m at);
    waiting = λ b q at.
        let (has, home) = h.waiting b q at in
        (has_still q (left q.class.0 q.inter.0 has.entry has.is) has, home);
  }
    where
      number : OpenRecord → ℕ
      number r = r.request.request

      left : (j b : ℕ) (f : OpenRecord) → w.pending j b ≡ Some f
          → put_at w.pending k a (Some e) j b ≡ w.pending j b
      left j b f there =
          put_at_other w.pending k a (Some e) j b
          (λ class inter. none-some f (sym free ∙ (sym (at_same w.pending class inter) ∙ there)))

      own_after : (g : Grant) → IsKnownOrPending p w.known w.pending g
          → IsKnownOrPending p w.known (put_at w.pending k a (Some e)) g
      own_after g (inr knows) = inr knows
      own_after g (inl (f, there, same)) =
          inl (f, left (class_in p.classes g.inter.0) g.inter.0 f there ∙ there, same)

      fits_here : (j b : ℕ) (f : OpenRecord) → j ≡ k → b ≡ a → e ≡ f → RecordFits p next j b f
      fits_here j b f class inter entry =
          subst (λ (i : ℕ). RecordFits p next i b f) (sym class)
          (subst (λ (i : ℕ). RecordFits p next k i f) (sym inter)
          (subst (RecordFits p next k a) entry fits))

      new_number : (j d : ℕ) (g : OpenRecord) → j ≡ k → w.pending j d ≡ Some g
          → ¬ (e.request.request ≡ g.request.request)
      new_number j d g class there same =
          omega (arith, new, same, (h.records j d g there).below, ap w.next class)
