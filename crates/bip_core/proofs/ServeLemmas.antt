-- Each step of the bank that answers a request keeps a world in agreement with its trace, whether
-- it grants or refuses. All other steps of the bank leave what agreement speaks of.
use Rattle.std.proofs.Common.{◌≡◌, ℕ, ◌+◌, ◌<◌, ◌≤◌, List, [], ◌∷◌, ◌++◌, length, refl, sym, ap}
use Rattle.std.proofs.Common.{◌∙◌, subst, inl, inr, arith}
use Rattle.std.specs.Prelude.{Any}
use Rattle.bip_model.specs.Numbering.{put}
use Rattle.bip_model.specs.Parties.{AreParties}
use Rattle.bip_model.specs.States.{State}
use Rattle.bip_model.specs.Steps.{after}
use Rattle.bip_model.specs.Wants.{IsFresh, raised}
use Rattle.bip_model.specs.declared.messages.Reply.TheVariants.{Granted, Refused}
use Rattle.bip_model.specs.declared.messages.Request.{Request}
use Rattle.bip_model.specs.declared.numbering.CompId.{CompId}
use Rattle.bip_model.specs.declared.wants.Want.{Want}
use Rattle.bip_partition.specs.Laws.{IsPlanned}
use Rattle.bip_partition.specs.Plans.{IsTabled, Planned, Touches}
use Rattle.bip_partition.proofs.LawLemmas.{reserved_all}
use Rattle.bip_bank.specs.Decisions.{grant_of}
use Rattle.bip_core.specs.declared.messages.Message.TheVariants.{ReplyToClass}
use Rattle.bip_core.specs.Agreement.{AgreeAt}
use Rattle.bip_core.specs.Books.{HasRecord, HasReplied, IsDenied, RecordFits, is_about}
use Rattle.bip_core.specs.Lists.{In, count}
use Rattle.bip_core.specs.Locals.{Made}
use Rattle.bip_core.specs.Views.{View}
use Rattle.bip_core.proofs.BookLemmas as books
use Rattle.bip_core.proofs.BookLemmas.{Joins, NothingAbout, reserved_joins}
use Rattle.bip_core.proofs.ListLemmas.{All-each, each-All, in-back, one-Any}
use Rattle.bip_core.proofs.LocalLemmas as locals
use Rattle.bip_core.proofs.MailLemmas.{sends_about}
use Rattle.bip_core.proofs.NumberLemmas as numbers
use Rattle.bip_core.proofs.NumberLemmas.{IsFreshGrant}
use Rattle.bip_core.proofs.PutLemmas.{all_put, put_here}
use Rattle.bip_core.proofs.WantLemmas.{touched, untouched_so}

-- the bank takes up the oldest open request of an interaction
module _ {p : Planned} (planned : IsPlanned p) {base : ℕ} {u : ℕ → ℕ} {s : State} {w : View}
    (h : AgreeAt p base u s w) {q : Request} {later : List Request}
    (oldest : w.waiting q.inter.0 ≡ q ∷ later) where
  abbrev pub taken_up : View
  taken_up = record w { waiting = put w.waiting q.inter.0 later }

  was_open : (x : Request) → In x (q ∷ later)
      → HasRecord w.trace w.pending x × (x.inter.0 ≡ q.inter.0)
  was_open x at =
      h.books.waiting q.inter.0 x (subst (λ (qs : List Request). In x qs) (sym oldest) at)

  -- with its record
  has : HasRecord w.trace w.pending q
  has = (was_open q (inl refl)).0

  kept : RecordFits p w.next q.class.0 q.inter.0 has.entry
  kept = h.books.records q.class.0 q.inter.0 has.entry has.is

  parties : AreParties p.model q.inter.0 q.wants
  parties = subst (λ (x : Request). AreParties p.model q.inter.0 x.wants) has.same kept.wants

  tabled : (c : ℕ) → Touches p.model q.inter.0 c → IsTabled p c
  tabled c touches = reserved_all p q.inter.0 c kept.reserved touches

  -- nothing else is about its interaction
  nothing : NothingAbout taken_up q.inter.0
  nothing =
      let open_now = ap length (put_here w.waiting q.inter.0 later) in
      omega (arith, h.books.once q.inter.0, ap length oldest, open_now)

  closed : AgreeAt p base u s taken_up
  closed = record {
    books = books.queued h.books
        (all_put
        (λ a qs. (x : Request) → In x qs → HasRecord w.trace w.pending x × (x.inter.0 ≡ a))
        w.waiting q.inter.0 later (λ x at. was_open x (inr at)) (λ a other. h.books.waiting a))
        (all_put (λ a qs. count (is_about a) w.mail + length qs ≤ 1) w.waiting q.inter.0 later
        (omega (arith, h.books.once q.inter.0, ap length oldest)) (λ a other. h.books.once a));
    numbers = numbers.elsewhere h.numbers;
    locals = locals.elsewhere h.locals;
  }

  -- it grants it
  module _ (fresh_there : IsFresh w.used q.wants) where
    abbrev pub serving : View
    serving = record taken_up {
      trace = w.trace ++ grant_of q ∷ [];
      used = raised w.used q.wants;
      grants = w.grants ++ grant_of q ∷ [];
    }

    -- what is fresh by the bank's used numbers is fresh, since all of it has a row
    fresh_each : (v : Want) → In v q.wants → u v.comp.0 < v.number
    fresh_each v at =
        let fresh = All-each (λ (x : Want). w.used x.comp.0 < x.number) q.wants fresh_there v at in
        let used = h.books.bank_used v.comp.0 (tabled v.comp.0 (touched parties v at)) in
        omega arith

    own : (v : Want) → In v q.wants → v.number ≤ w.number v.comp.0
    own v at =
        let numbers = h.numbers.records q.class.0 q.inter.0 has.entry has.is in
        numbers.wants v (subst (λ (x : Request). In v x.wants) (sym has.same) at)

    its : IsFreshGrant p.model u w.number (grant_of q)
    its = record {
      fresh = each-All (λ (v : Want). u v.comp.0 < v.number) q.wants fresh_each;
      parties = parties;
      own = own;
    }

    made : Made p.model u s q.inter.0 q.reasons q.wants has.entry.notifies
    made =
        subst
        (λ (x : Request). Made p.model u s x.inter.0 x.reasons x.wants has.entry.notifies) has.same
        (h.locals.made q.class.0 q.inter.0 has.entry has.is)

    joins : Joins p u taken_up (grant_of q) w.known serving.used serving.grants
    joins = record {
      fresh = its.fresh;
      parties = parties;
      nothing = nothing;
      more = λ k c. omega arith;
      at_most = λ k c. omega (arith, h.books.at_most k c);
      alone = λ a c touches untabled.
          let unmoved = untouched_so parties c (λ touches_it. untabled (tabled c touches_it)) in
          omega (arith, h.books.alone a c touches untabled, unmoved);
      own =
          inl (
            has.entry,
            ap (λ (k : ℕ). w.pending k q.inter.0) kept.home ∙ has.is,
            ap grant_of has.same,
          );
      bank_used = λ c row. omega (arith, h.books.bank_used c row);
      bank_grants = reserved_joins (grant_of q) kept.reserved h.books.bank_grants;
    }

    granted : AgreeAt p base (raised u q.wants) (after p.model s q.inter.0) serving
    granted = record {
      books = books.granted closed.books joins;
      numbers = numbers.elsewhere (numbers.granted closed.numbers its);
      locals =
          locals.elsewhere
          (locals.granted closed.locals planned.valid closed.numbers its h.books.used_is made);
    }

    -- and replies
    pub serves : (serial : ℕ)
        → AgreeAt p base (raised u q.wants) (after p.model s q.inter.0)
        (record serving {
          mail = w.mail ++ ReplyToClass (Granted q.class q.request q.inter serial) ∷ [];
        })
    serves serial =
        sends_about granted q.inter.0 (ReplyToClass (Granted q.class q.request q.inter serial))
        (λ a. refl) (λ c. refl) nothing (replied, tt, tt)
      where
        replied : HasReplied w.pending q.class.0 q.request q.inter.0
            (λ e. In (grant_of e.request) serving.trace)
        replied = record {
          entry = has.entry;
          is = has.is;
          same = ap (λ (x : Request). x.request) has.same;
          so =
              in-back (grant_of has.entry.request) w.trace (grant_of q ∷ [])
              (inl (ap grant_of has.same));
        }

  -- it refuses it, by the used number of a component that it wants
  pub refuses : (c : CompId) (used : ℕ) (v : Want) → In v q.wants
      → (v.comp.0 ≡ c.0) × (v.number ≤ w.used c.0) → used ≡ w.used c.0
      → AgreeAt p base u s
      (record taken_up {
        mail = w.mail ++ ReplyToClass (Refused q.class q.request q.inter c used) ∷ [];
      })
  refuses c used v among used_up is =
      sends_about closed q.inter.0 (ReplyToClass (Refused q.class q.request q.inter c used))
      (λ a. refl) (λ d. refl) nothing (replied, tt, tt)
    where
      row : IsTabled p c.0
      row = tabled c.0 (subst (Touches p.model q.inter.0) used_up.0 (touched parties v among))

      IsTooLow : Want → Type 0
      IsTooLow x = (x.comp.0 ≡ c.0) × (x.number ≤ used)

      wanted : Any IsTooLow has.entry.request.wants
      wanted =
          subst (λ (x : Request). Any IsTooLow x.wants) (sym has.same)
          (one-Any IsTooLow q.wants v among (used_up.0, omega (arith, used_up.1, is)))

      replied : HasReplied w.pending q.class.0 q.request q.inter.0 (IsDenied u w.trace c.0 used)
      replied = record {
        entry = has.entry;
        is = has.is;
        same = ap (λ (x : Request). x.request) has.same;
        so = record {
          used_up = omega (arith, is, h.books.bank_used c.0 row);
          not_granted = λ at.
              has.not_granted
              (subst (λ (x : Request). In (grant_of x) w.trace) has.same at);
          wanted = wanted;
        };
      }
