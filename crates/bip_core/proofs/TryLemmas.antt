-- Each try of a class keeps a world in agreement with its trace: a local interaction is granted at
-- once, a reserved one is asked for.
use Rattle.std.proofs.lemmas.List.Elements.{All-nil}
use Rattle.std.specs.Prelude.{All}
use Rattle.bip_model.specs.declared.reasons.Why.{Why}
use Rattle.std.proofs.Common.{◌≡◌, ℕ, ◌+◌, ◌<◌, ◌≤◌, ◌⊎◌, List, [], ◌∷◌, ◌++◌, length, Some, None}
use Rattle.std.proofs.Common.{refl, sym, ap, ◌∙◌, subst, inl, inr, arith}
use Rattle.std.proofs.lemmas.Bool.{false_from_ne_true}
use Rattle.std.proofs.lemmas.Option.{none-some}
use Rattle.bip_model.specs.Numbering.{put}
use Rattle.bip_model.specs.Parties.{AreExplained, AreWantsBy, HasWantOf}
use Rattle.bip_model.specs.Partitions.{class_in}
use Rattle.bip_model.specs.States.{State}
use Rattle.bip_model.specs.Steps.{after}
use Rattle.bip_model.specs.Wants.{raised}
use Rattle.bip_model.specs.declared.grants.Grant.{Grant}
use Rattle.bip_model.specs.declared.messages.Notify.{Notify}
use Rattle.bip_model.specs.declared.messages.Offer.{Offer}
use Rattle.bip_model.specs.declared.messages.Request.{Request}
use Rattle.bip_model.specs.declared.wants.Want.{Want}
use Rattle.bip_partition.specs.Laws.{IsPlanned}
use Rattle.bip_partition.specs.Plans.{IsReserved, IsTabled, Planned, Touches}
use Rattle.bip_partition.proofs.LawLemmas.{each_moves, local_none, one_class_without_row}
use Rattle.bip_bank.specs.Decisions.{grant_of}
use Rattle.bip_observe.specs.Verdicts.{IsReady, IsTrueOf}
use Rattle.bip_ip.specs.Asking.{told_by}
use Rattle.bip_ip.specs.declared.nodes.OpenRecord.{OpenRecord}
use Rattle.bip_core.specs.Events.{are_notified}
use Rattle.bip_core.specs.declared.messages.Message.TheVariants.{RequestToBank}
use Rattle.bip_core.specs.Agreement.{AgreeAt}
use Rattle.bip_core.specs.Books.{HasRecord, RecordFits}
use Rattle.bip_core.specs.Lists.{In, put_at}
use Rattle.bip_core.specs.Numbers.{IsOwed, RecordNumbers}
use Rattle.bip_core.specs.Locals.{Made}
use Rattle.bip_core.specs.Views.{View}
use Rattle.bip_core.proofs.BookLemmas as books
use Rattle.bip_core.proofs.BookLemmas.{Joins, local_joins, nothing_about}
use Rattle.bip_core.proofs.ListLemmas.{each-All, in-back, in-one, in-split}
use Rattle.bip_core.proofs.LocalLemmas as locals
use Rattle.bip_core.proofs.LocalLemmas.{LeadsNext, fresh_leads}
use Rattle.bip_core.proofs.MailLemmas.{MayTell, sends_about, sends_told}
use Rattle.bip_core.proofs.NumberLemmas as numbers
use Rattle.bip_core.proofs.NumberLemmas.{IsFreshGrant, owed_in, quiet}
use Rattle.bip_core.proofs.PutLemmas.{all_put, at_same, put_at_cases, put_at_here, put_here}
use Rattle.bip_core.proofs.ToldLemmas.{told_once, tells_move}
use Rattle.bip_core.proofs.UsedLemmas.{learning, learns_more, learns_within}
use Rattle.bip_core.proofs.WantLemmas.{has_want, moved_as_offered, offered_number}
use Rattle.bip_core.proofs.WantLemmas.{touched, untouched_so}

-- a class takes an interaction up with wants: it has no record of it, and by the offers that it
-- holds of what is wanted it is ready
pub record Takes (p : Planned) (w : View) (k a : ℕ) (o : ℕ → Offer) (wants : List Want)
    : Type 0 where
  pub inter : a < length p.model.interactions
  pub home : class_in p.classes a ≡ k
  pub free : w.pending k a ≡ None
  pub ready : IsReady p.model o (HasWantOf wants) a
  pub held : (c : ℕ) → HasWantOf wants c → w.held k c ≡ Some (o c)

-- and these offers count, by what the class knows
abbrev pub WantedCount : View → ℕ → (ℕ → Offer) → List Want → Type 0
WantedCount w k o wants = (c : ℕ) → HasWantOf wants c → w.known k c < (o c).number

-- what its grant leaves: what it moved is known, and its components are told
abbrev pub granting_to : Planned → View → ℕ → ℕ → (ℕ → Offer) → Grant → View
granting_to p w k a o g = record w {
  trace = w.trace ++ g ∷ [];
  known = learning w.known k g.wants;
  mail = w.mail ++ are_notified (told_by p.model o a);
}

-- what its request leaves: the record, with what its grant will tell
abbrev pub asking_for : Planned → View → ℕ → ℕ → (ℕ → Offer) → Request → View
asking_for p w k a o q =
    let entry : OpenRecord = record { request = q; notifies = told_by p.model o a } in
    record w {
      pending = put_at w.pending k a (Some entry);
      next = put w.next k (w.next k + 1);
      mail = w.mail ++ RequestToBank q ∷ [];
    }

module _ {p : Planned} (planned : IsPlanned p) {base : ℕ} {u : ℕ → ℕ} {s : State} {w : View}
    (h : AgreeAt p base u s w) where
  -- what a class decides on its held offers
  module _ {k a : ℕ} {o : ℕ → Offer} {reasons : List Why} {wants : List Want}
      (takes : Takes p w k a o wants) (by : AreWantsBy p.model o a reasons wants)
      (so : All (λ (y : Why). IsTrueOf p.model o y.inter.0 y.cause) reasons) where
    decided_within : (v : Want) → In v wants → v.number ≤ w.number v.comp.0
    decided_within v at =
        let c = v.comp.0 in
        let held = takes.held c (has_want wants v at) in
        omega (arith, offered_number by v at, (h.numbers.held k c (o c) held).1)

    decided_made : Made p.model u s a reasons wants (told_by p.model o a)
    decided_made = record {
      offers = o;
      so = so;
      ready = takes.ready;
      wants_are = by;
      tells_are = refl;
      fit = λ c has unused.
          let own = ap u (takes.ready.own c has) in
          h.locals.held k c (o c) (takes.held c has) (omega arith);
    }

  -- a class grants a local interaction
  module _ {k : ℕ} {o : ℕ → Offer} {g : Grant} (takes : Takes p w k g.inter.0 o g.wants)
      (counts : WantedCount w k o g.wants) (by : AreWantsBy p.model o g.inter.0 [] g.wants)
      (local : ¬ IsReserved p g.inter.0) where
    none_so : All (λ (y : Why). IsTrueOf p.model o y.inter.0 y.cause) []
    none_so = All-nil (λ (y : Why). IsTrueOf p.model o y.inter.0 y.cause)

    abbrev pub granting : View
    granting = record w { trace = w.trace ++ g ∷ []; known = learning w.known k g.wants }

    -- of a component without a row its class knows the used number
    known_alone : (a c : ℕ) → Touches p.model a c → ¬ IsTabled p c → class_in p.classes a ≡ k
        → w.known k c ≡ u c
    known_alone a c touches untabled home =
        ap (λ (j : ℕ). w.known j c) (sym home) ∙ h.books.alone a c touches untabled

    -- so offers that count for it are fresh
    fresh_each : (v : Want) → In v g.wants → u v.comp.0 < v.number
    fresh_each v at =
        let c = v.comp.0 in
        let touches = touched by.parties v at in
        let untabled = local_none p g.inter.0 c local touches in
        let used = known_alone g.inter.0 c touches untabled takes.home in
        omega (arith, used, counts c (has_want g.wants v at), offered_number by v at)

    pub its : IsFreshGrant p.model u w.number g
    its = record {
      fresh = each-All (λ (v : Want). u v.comp.0 < v.number) g.wants fresh_each;
      parties = by.parties;
      own = decided_within takes by none_so;
    }

    alone_after : (a c : ℕ) → Touches p.model a c → ¬ IsTabled p c
        → learning w.known k g.wants (class_in p.classes a) c ≡ raised u g.wants c
    alone_after a c touches untabled =
        all_put (λ j now. class_in p.classes a ≡ j → now c ≡ raised u g.wants c)
        w.known k (raised (w.known k) g.wants) here there (class_in p.classes a) refl
      where
        here : class_in p.classes a ≡ k → raised (w.known k) g.wants c ≡ raised u g.wants c
        here home = omega (arith, known_alone a c touches untabled home)

        -- another class knows it, where this one doesn't touch it
        there : (j : ℕ) → ¬ (j ≡ k) → class_in p.classes a ≡ j → w.known j c ≡ raised u g.wants c
        there j other home =
            let unmoved = untouched_so by.parties c apart in
            let known = ap (λ (i : ℕ). w.known i c) home in
            omega (arith, h.books.alone a c touches untabled, known, unmoved)
          where
            apart : ¬ Touches p.model g.inter.0 c
            apart touches_too =
                let same = one_class_without_row p planned a g.inter.0 c touches touches_too in
                other (sym home ∙ (same untabled ∙ takes.home))

    -- and it touches nothing that has a row
    rowless : (c : ℕ) → IsTabled p c → ¬ Touches p.model g.inter.0 c
    rowless c tabled touches = local_none p g.inter.0 c local touches tabled

    joins : Joins p u w g (learning w.known k g.wants) w.used w.grants
    joins = record {
      fresh = its.fresh;
      parties = by.parties;
      nothing = nothing_about h.books g.inter.0
          (λ j e is. local (h.books.records j g.inter.0 e is).reserved);
      more = learns_more w.known k g.wants;
      at_most =
          learns_within w.known k g.wants (raised u g.wants)
          (λ j c. omega (arith, h.books.at_most j c)) (λ c. omega arith);
      alone = alone_after;
      own = inr (λ c.
          let home = ap (λ (j : ℕ). learning w.known k g.wants j c) takes.home in
          let now = put_here w.known k (raised (w.known k) g.wants) in
          omega (arith, home, ap (λ (known : ℕ → ℕ). known c) now));
      bank_used = λ c tabled.
          omega (arith, untouched_so by.parties c (rowless c tabled), h.books.bank_used c tabled);
      bank_grants = local_joins g local h.books.bank_grants;
    }

    granted : AgreeAt p base (raised u g.wants) (after p.model s g.inter.0) granting
    granted = record {
      books = books.granted h.books joins;
      numbers = numbers.elsewhere (numbers.granted h.numbers its);
      locals =
          locals.elsewhere
          (locals.granted h.locals planned.valid h.numbers its h.books.used_is
          (decided_made takes by none_so));
    }

    leads_next : (n : Notify) → In n (told_by p.model o g.inter.0)
        → LeadsNext p.model u (after p.model s g.inter.0) w n
    leads_next =
        fresh_leads h.locals planned.valid h.numbers (decided_made takes by none_so) its.fresh
        (decided_within takes by none_so)

    may_tell : (n : Notify) → In n (told_by p.model o g.inter.0)
        → MayTell p (raised u g.wants) (after p.model s g.inter.0) granting n
    may_tell n at =
        let next = leads_next n at in
        let moved = (tells_move by n at).moved in
        record {
          granted = (g, in-back g w.trace (g ∷ []) (inl refl), moved);
          awaited = record {
            own = next.own;
            used = omega (arith, next.own, next.next, moved);
            unspent =
                false_from_ne_true (w.spent n.comp.0)
                (λ spent. omega (arith, next.next, (h.numbers.spent n.comp.0 spent).0));
          };
          leads = next.leads;
          none = quiet h.numbers n.comp.0 (omega (arith, next.next));
        }

    -- no record owes what is told: its components rest, and no record is of this interaction
    no_other : (j b : ℕ) (e : OpenRecord) (x n : Notify) → IsOwed granting j b e x
        → In n (told_by p.model o g.inter.0) → ¬ (n.comp.0 ≡ x.comp.0)
    no_other j b e x n owed at same =
        elim (in-split (grant_of e.request) w.trace (g ∷ []) owed.granted) [
          | inl old ↦
              let owes = owed_in w owed.is old owed in
              let used = (h.numbers.owed j b e x owes).0.used in
              omega (arith, used, (leads_next n at).next, ap w.number same, ap u same)
          | inr new ↦
              let kept = h.books.records j b e owed.is in
              let this = ap (λ (f : Grant). f.inter.0) (in-one (grant_of e.request) g new) in
              local (subst (IsReserved p) (sym kept.number ∙ this) kept.reserved)
        ]

    -- and its components are told
    pub grants : AgreeAt p base (raised u g.wants) (after p.model s g.inter.0)
        (granting_to p w k g.inter.0 o g)
    grants =
        sends_told granted (told_by p.model o g.inter.0) may_tell
        (told_once p.model planned.valid o g.inter.0) no_other

  -- a class asks for a reserved interaction
  module _ {o : ℕ → Offer} {q : Request} (takes : Takes p w q.class.0 q.inter.0 o q.wants)
      (by : AreWantsBy p.model o q.inter.0 q.reasons q.wants)
      (so : All (λ (y : Why). IsTrueOf p.model o y.inter.0 y.cause) q.reasons)
      (explained : AreExplained p.model q.inter.0 q.wants q.reasons)
      (is_reserved : IsReserved p q.inter.0) (number : q.request ≡ w.next q.class.0)
      (not_granted : ¬ In (grant_of q) w.trace) where
    abbrev pub entry : OpenRecord
    entry = record { request = q; notifies = told_by p.model o q.inter.0 }

    abbrev pub recording : View
    recording = record w {
      pending = put_at w.pending q.class.0 q.inter.0 (Some entry);
      next = put w.next q.class.0 (w.next q.class.0 + 1);
    }

    -- no class has a record of it
    unrecorded : (j : ℕ) (e : OpenRecord) → ¬ (w.pending j q.inter.0 ≡ Some e)
    unrecorded j e is =
        let home = sym (h.books.records j q.inter.0 e is).home ∙ takes.home in
        none-some e (sym takes.free ∙ (sym (at_same w.pending home refl) ∙ is))

    fits : RecordFits p recording.next q.class.0 q.inter.0 entry
    fits = record {
      class = refl;
      number = refl;
      home = takes.home;
      reserved = is_reserved;
      wants = by.parties;
      explained = explained;
      below = omega (arith, number, put_here w.next q.class.0 (w.next q.class.0 + 1));
    }

    entry_numbers : RecordNumbers p.model w.number entry
    entry_numbers = record {
      wants = decided_within takes by so;
      tells = λ n at. (tells_move by n at).moves;
      same = λ n at.
          let its = (tells_move by n at).has in
          (its.want, its.among, its.comp, its.number);
      once = told_once p.model planned.valid o q.inter.0;
    }

    recorded : AgreeAt p base u s recording
    recorded = record {
      books = books.recorded h.books takes.free
          (all_put (λ j n. w.next j ≤ n) w.next q.class.0 (w.next q.class.0 + 1)
          (omega arith) (λ j other. omega arith))
          fits (omega (arith, number));
      numbers =
          numbers.elsewhere
          (numbers.recorded h.numbers entry cases entry_numbers not_granted);
      locals =
          locals.elsewhere
          (locals.recorded h.locals entry cases (decided_made takes by so) not_granted);
    }
      where
        cases : (j b : ℕ) (e : OpenRecord) → recording.pending j b ≡ Some e
            → (entry ≡ e) ⊎ (w.pending j b ≡ Some e)
        cases j b e is = elim (put_at_cases w.pending q.class.0 q.inter.0 entry j b e is) [
          | inl new ↦ inl new.2
          | inr old ↦ inr old
        ]

    has : HasRecord w.trace recording.pending q
    has = record {
      entry = entry;
      is = put_at_here w.pending q.class.0 q.inter.0 (Some entry);
      same = refl;
      not_granted = not_granted;
    }

    pub asks_ungranted : AgreeAt p base u s (asking_for p w q.class.0 q.inter.0 o q)
    asks_ungranted =
        sends_about recorded q.inter.0 (RequestToBank q) (λ b. refl) (λ c. refl)
        (nothing_about h.books q.inter.0 unrecorded) (has, tt, tt)

  -- and had its request been granted, the class would know what it moved
  module _ {o : ℕ → Offer} (q : Request) (takes : Takes p w q.class.0 q.inter.0 o q.wants)
      (counts : WantedCount w q.class.0 o q.wants)
      (by : AreWantsBy p.model o q.inter.0 q.reasons q.wants) where
    not_granted : ¬ In (grant_of q) w.trace
    not_granted at =
        let (c, on) = each_moves p.model planned.valid q.inter.0 takes.inter in
        elim (h.books.own (grant_of q) at) [
          | inl waits ↦
              let there = ap (λ (j : ℕ). w.pending j q.inter.0) takes.home in
              none-some waits.0 (sym takes.free ∙ (sym there ∙ waits.1))
          | inr knows ↦
              let there = ap (λ (j : ℕ). w.known j c) takes.home in
              let new = counts c (takes.ready.moved c on) in
              omega (arith, knows c, there, new, moved_as_offered by c on)
        ]

    pub asks : All (λ (y : Why). IsTrueOf p.model o y.inter.0 y.cause) q.reasons
        → AreExplained p.model q.inter.0 q.wants q.reasons → IsReserved p q.inter.0
        → q.request ≡ w.next q.class.0 → AgreeAt p base u s (asking_for p w q.class.0 q.inter.0 o q)
    asks so explained is_reserved number =
        asks_ungranted takes by so explained is_reserved number not_granted
