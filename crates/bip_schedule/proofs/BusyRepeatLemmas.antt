-- A word is one busy event: in worlds that are alike it is the same, and none where none has
-- anything to do.
use Rattle.std.proofs.Common.{◌≡◌, ◌∙◌, ℕ, suc, zero, ◌<◌, ◌≤◌, ◌+◌, ◌-◌, ◌%◌, ◌/◌, ◌∷◌, []}
use Rattle.std.proofs.lemmas.Bool.{cases_lt}
use Rattle.std.proofs.Common.{List, ap, arith, cond, inl, inr, length, nat_lt, refl, subst}
use Rattle.std.proofs.Common.{sym}
use Rattle.bip_bank.specs.Laws.{MovesInOneWay}
use Rattle.bip_core.proofs.RepeatLemmas.{same_lengths}
use Rattle.bip_core.specs.Events.{HasNoWork, HasWork}
use Rattle.bip_core.specs.Repeats.{AreAlike}
use Rattle.bip_core.specs.Worlds.{WorldContent}
use Rattle.bip_core.specs.declared.events.Event.{Event}
use Rattle.bip_core.specs.declared.events.Event.TheVariants as event
use Rattle.bip_core.specs.declared.messages.Message.{Message}
use Rattle.bip_model.specs.declared.numbering.InterId.{InterId}
use Rattle.bip_schedule.proofs.BusyLemmas.{one_count}
use Rattle.bip_partition.proofs.TableLemmas.{one_stations}
use Rattle.bip_schedule.specs.Busy.{HaveWork, IsBusyAmong, IsBusyDrawn, IsDrawnOfKind, IsQuiet}
use Rattle.bip_schedule.specs.Busy.{IsQuietKind}
use Rattle.bip_schedule.specs.Busy.{IsTakenOf, arrival_at, arriving, asked_at, asked_count}
use Rattle.bip_schedule.specs.Busy.{count_of_kind}
use Rattle.bip_schedule.specs.Busy.{event_at, kinds_of, none_below, one_has, one_lacks}
use Rattle.bip_schedule.specs.declared.busy.EventKind.TheVariants.{Mail, Step, Try}
use Rattle.bip_schedule.specs.declared.busy.EventKind.{EventKind}

-- Where a world has other messages in flight, but as many, the same events have something to do.

module _ (x : WorldContent) (ms : List Message) (same : length ms ≡ length x.mail) where
  abbrev w : WorldContent
  w = record x { mail = ms }

  works_so : (e : Event) → HasWork w e → HasWork x e
  works_so (event.Mail place) work = omega (arith, work, same)
  works_so (event.Try k a) work = work
  works_so (event.Bank step) work = work

  rests_so : (e : Event) → HasNoWork w e → HasNoWork x e
  rests_so (event.Mail place) none = omega (arith, none, same)
  rests_so (event.Try k a) none = none
  rests_so (event.Bank step) none = none

  arrive_so : (kind : EventKind) → arriving w kind ≡ arriving x kind
  arrive_so Mail = same
  arrive_so Try = refl
  arrive_so Step = refl

  at_so : (n : ℕ) (kind : EventKind) (i : ℕ) → event_at w n kind i ≡ event_at x n kind i
  at_so n kind i =
      ap (λ (k : ℕ). cond (nat_lt i k) (arrival_at kind i) (asked_at x.plan n kind (i - k)))
      (arrive_so kind)

  count_so : (n : ℕ) (kind : EventKind) → count_of_kind w n kind ≡ count_of_kind x n kind
  count_so n kind = ap (λ (k : ℕ). k + asked_count x.plan n kind) (arrive_so kind)

  have_so : (n : ℕ) (kind : EventKind) (below busy : ℕ)
      → HaveWork w (event_at w n kind) below busy → HaveWork x (event_at x n kind) below busy
  have_so n kind zero zero none_below = none_below
  have_so n kind zero (suc busy) more = elim more [ ]
  have_so n kind (suc below) (suc busy) (one_has more is) =
      one_has (have_so n kind below busy more)
      (subst (HasWork x) (at_so n kind below) (works_so (event_at w n kind below) is))
  have_so n kind (suc below) busy (one_lacks more is) =
      one_lacks (have_so n kind below busy more)
      (subst (HasNoWork x) (at_so n kind below) (rests_so (event_at w n kind below) is))

  all_so : (n : ℕ) (kind : EventKind) (busy : ℕ)
      → HaveWork w (event_at w n kind) (count_of_kind w n kind) busy
      → HaveWork x (event_at x n kind) (count_of_kind x n kind) busy
  all_so n kind busy so =
      subst (λ (k : ℕ). HaveWork x (event_at x n kind) k busy) (count_so n kind)
      (have_so n kind (count_of_kind w n kind) busy so)

  taken_so : (n : ℕ) (kind : EventKind) (number : ℕ) (e : Event) → IsDrawnOfKind w n kind number e
      → IsDrawnOfKind x n kind number e
  taken_so n kind number e is = record {
    busy = is.busy;
    all = all_so n kind is.busy is.all;
    some = is.some;
    found = record {
      place = is.found.place;
      within = omega (arith, is.found.within, count_so n kind);
      before = have_so n kind is.found.place (number % is.busy) is.found.before;
      is = is.found.is ∙ at_so n kind is.found.place;
      work = works_so e is.found.work;
    };
  }

  taken_of_so : (n number : ℕ) (kinds : List EventKind) (e : Event) → IsTakenOf w n number kinds e
      → IsTakenOf x n number kinds e
  taken_of_so n number [] e is = is
  taken_of_so n number (kind ∷ kinds) e (inl is) = inl (taken_so n kind number e is)
  taken_of_so n number (kind ∷ kinds) e (inr (quiet, is)) =
      inr (all_so n kind 0 quiet, taken_of_so n number kinds e is)

  drawn_so : (word : ℕ) (e : Event) → IsBusyDrawn w word e → IsBusyDrawn x word e
  drawn_so word e is = record {
    stations = is.stations;
    are = is.are;
    taken = taken_of_so (length is.stations) (word / 4) (kinds_of word) e is.taken;
  }

  quiet_so : IsQuiet w → IsQuiet x
  quiet_so is = record {
    stations = is.stations;
    are = is.are;
    each = λ kind. all_so (length is.stations) kind 0 (is.each kind);
  }

-- a world is another one that is alike, but for its messages
but_mail : (w x : WorldContent) → AreAlike w x → w ≡ record x { mail = w.mail }
but_mail w x alike = ap (λ (u : WorldContent). record u { mail = w.mail }) alike

pub busy_alike : (w x : WorldContent) (word : ℕ) (e : Event) → AreAlike w x
    → IsBusyDrawn w word e → IsBusyDrawn x word e
busy_alike w x word e alike is =
    drawn_so x w.mail (same_lengths w x alike) word e
    (subst (λ (u : WorldContent). IsBusyDrawn u word e) (but_mail w x alike) is)

pub quiet_alike : (w x : WorldContent) → AreAlike w x → IsQuiet w → IsQuiet x
quiet_alike w x alike is =
    quiet_so x w.mail (same_lengths w x alike) (subst IsQuiet (but_mail w x alike) is)

-- One word is one event.

module _ (w : WorldContent) (way : MovesInOneWay w.bank.sharing) where
  last_of : (at : ℕ → Event) (x k y : ℕ) → ((z : ℕ) → HaveWork w at k z → x ≤ z)
      → HaveWork w at (suc k) y → x ≤ y
  last_of at x k (suc y) before (one_has so is) =
      let few = before y so in
      omega (arith, few)
  last_of at x k y before (one_lacks so is) = before y so

  -- further on there are no fewer
  no_fewer : (at : ℕ → Event) (below more x y : ℕ) → HaveWork w at below x
      → HaveWork w at (below + more) y → x ≤ y
  no_fewer at below zero x y one other =
      let same : HaveWork w at below y = subst (λ (k : ℕ). HaveWork w at k y) (omega arith) other in
      omega (arith, one_count w at below x y way one same)
  no_fewer at below (suc more) x y one other =
      last_of at x (below + more) y (λ z so. no_fewer at below more x z one so)
      (subst (λ (k : ℕ). HaveWork w at k y) (omega arith) other)

  -- so the place of one behind so many is one
  not_later : (at : ℕ → Event) (place behind more : ℕ) → HaveWork w at place behind
      → HasWork w (at place) → HaveWork w at (place + suc more) behind → ⊥
  not_later at place behind more one work other =
      let next : HaveWork w at (suc place) (suc behind) = one_has one work in
      let there : HaveWork w at (suc place + more) behind =
      subst (λ (k : ℕ). HaveWork w at k behind) (omega arith) other in
      omega (arith, no_fewer at (suc place) more (suc behind) behind next there)

  later_than : (at : ℕ → Event) (count behind : ℕ) (e f : Event)
      (one : IsBusyAmong w at count behind e)
      (other : IsBusyAmong w at count behind f) → one.place < other.place → ⊥
  later_than at count behind e f one other later =
      not_later at one.place behind (other.place - one.place - 1) one.before
      (subst (HasWork w) one.is one.work)
      (subst (λ (k : ℕ). HaveWork w at k behind) (omega (arith, later)) other.before)

  same_found : (at : ℕ → Event) (count behind : ℕ) (e f : Event) → IsBusyAmong w at count behind e
      → IsBusyAmong w at count behind f → e ≡ f
  same_found at count behind e f one other = elim (cases_lt one.place other.place) [
    | inl before ↦ absurd (later_than at count behind e f one other before)
    | inr past ↦ elim (cases_lt other.place one.place) [
      | inl after ↦ absurd (later_than at count behind f e other one after)
      | inr here ↦ one.is ∙ (ap at (omega (arith, past, here)) ∙ sym other.is)
    ]
  ]

  same_taken : (n : ℕ) (kind : EventKind) (number : ℕ) (e f : Event)
      → IsDrawnOfKind w n kind number e
      → IsDrawnOfKind w n kind number f → e ≡ f
  same_taken n kind number e f one other =
      let busy : one.busy ≡ other.busy =
      one_count w (event_at w n kind) (count_of_kind w n kind) one.busy other.busy way one.all
      other.all
      in
      same_found (event_at w n kind) (count_of_kind w n kind) (number % other.busy) e f
      (subst (λ (k : ℕ).
      IsBusyAmong w (event_at w n kind) (count_of_kind w n kind) (number % k) e) busy
      one.found) other.found

  not_quiet : (n : ℕ) (kind : EventKind) (number : ℕ) (e : Event) → IsDrawnOfKind w n kind number e
      → IsQuietKind w n kind → ⊥
  not_quiet n kind number e is quiet =
      omega (
        arith,
        is.some,
        one_count w (event_at w n kind) (count_of_kind w n kind) is.busy 0 way is.all
            quiet,
      )

  same_of : (n number : ℕ) (kinds : List EventKind) (e f : Event) → IsTakenOf w n number kinds e
      → IsTakenOf w n number kinds f → e ≡ f
  same_of n number [] e f one other = absurd one
  same_of n number (kind ∷ kinds) e f (inl one) (inl other) =
      same_taken n kind number e f one other
  same_of n number (kind ∷ kinds) e f (inl one) (inr (quiet, other)) =
      absurd (not_quiet n kind number e one quiet)
  same_of n number (kind ∷ kinds) e f (inr (quiet, one)) (inl other) =
      absurd (not_quiet n kind number f other quiet)
  same_of n number (kind ∷ kinds) e f (inr (quiet, one)) (inr (silent, other)) =
      same_of n number kinds e f one other

  none_of : (n number : ℕ) (kinds : List EventKind) (e : Event)
      → ((kind : EventKind) → IsQuietKind w n kind) → IsTakenOf w n number kinds e → ⊥
  none_of n number [] e quiet is = is
  none_of n number (kind ∷ kinds) e quiet (inl is) = not_quiet n kind number e is (quiet kind)
  none_of n number (kind ∷ kinds) e quiet (inr (also, is)) = none_of n number kinds e quiet is

  pub one_busy : (word : ℕ) (e f : Event) → IsBusyDrawn w word e → IsBusyDrawn w word f → e ≡ f
  one_busy word e f one other =
      let same : one.stations ≡ other.stations =
      one_stations w.plan one.stations other.stations one.are other.are in
      same_of (length other.stations) (word / 4) (kinds_of word) e f
      (subst (λ (xs : List InterId). IsTakenOf w (length xs) (word / 4) (kinds_of word) e) same
      one.taken) other.taken

  pub quiet_or_drawn : (word : ℕ) (e : Event) → IsQuiet w → IsBusyDrawn w word e → ⊥
  quiet_or_drawn word e quiet is =
      let same : is.stations ≡ quiet.stations =
      one_stations w.plan is.stations quiet.stations is.are quiet.are in
      none_of (length quiet.stations) (word / 4) (kinds_of word) e quiet.each
      (subst (λ (xs : List InterId). IsTakenOf w (length xs) (word / 4) (kinds_of word) e) same
      is.taken)

  -- an event that is drawn has something to do
  works_of : (n number : ℕ) (kinds : List EventKind) (e : Event) → IsTakenOf w n number kinds e
      → HasWork w e
  works_of n number [] e is = absurd is
  works_of n number (kind ∷ kinds) e (inl is) = is.found.work
  works_of n number (kind ∷ kinds) e (inr (quiet, is)) = works_of n number kinds e is

  pub drawn_works : (word : ℕ) (e : Event) → IsBusyDrawn w word e → HasWork w e
  drawn_works word e is = works_of (length is.stations) (word / 4) (kinds_of word) e is.taken
