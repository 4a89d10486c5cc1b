-- Which of the events of a kind have something to do.
use Rattle.std.proofs.Common.{◌≡◌, ◌∙◌, ℕ, suc, zero, ◌<◌, ◌≤◌, ◌+◌, ◌-◌, ◌%◌, ◌++◌, ◌∷◌, []}
use Rattle.std.proofs.Common.{IfNone, IfSome, List, None, Option, Some, Bool, ap, arith, cond}
use Rattle.std.proofs.Common.{false, inl, inr}
use Rattle.std.proofs.Common.{length, nat_lt, refl, subst, sym, true}
use Rattle.std.proofs.lemmas.Bool.Decides.{nat_tests}
use Rattle.std.proofs.lemmas.Bool.{cases_lt}
use Rattle.std.proofs.lemmas.List.Elements.{All-cons, All-nil}
use Rattle.std.proofs.lemmas.Nat.{mod_below}
use Rattle.bip_bank.proofs.IdlenessLemmas.{no_reason}
use Rattle.bip_bank.specs.Banks.{BankContent, CanWantMemory}
use Rattle.bip_bank.specs.ForkSharing.{ForkSharing, arrived_at}
use Rattle.bip_bank.specs.Laws.{MovesInOneWay}
use Rattle.bip_bank.specs.Sharing.{Sharing, alone, forks, in_flight, otherwise, ring, token_at}
use Rattle.bip_bank.specs.Sharing.{token_to}
use Rattle.bip_bank.specs.declared.banks.BankStep.TheVariants.{Deliver}
use Rattle.bip_core.specs.Events.{HasNoWork, HasWork}
use Rattle.bip_core.specs.Worlds.{WorldContent}
use Rattle.bip_core.specs.declared.events.Event.TheVariants as event
use Rattle.bip_core.specs.declared.events.Event.{Event}
use Rattle.bip_model.specs.declared.numbering.InterId.{InterId}
use Rattle.bip_partition.specs.Plans.{AreStations, Planned}
use Rattle.bip_partition.proofs.TableLemmas.{one_stations}
use Rattle.bip_schedule.specs.Writing.{HasSpelling, HaveSpelling}
use Rattle.bip_schedule.specs.Busy.{AreWithoutWork, FindsNone, HaveWork, IsBusyAmong}
use Rattle.bip_schedule.specs.Busy.{IsDrawnOfKind, IsQuietKind}
use Rattle.bip_schedule.specs.Busy.{arrival_at, arriving, asked_at, asked_count, count_of_kind}
use Rattle.bip_schedule.specs.Busy.{event_at, none_below, one_has, one_lacks}
use Rattle.bip_schedule.specs.declared.busy.EventKind.TheVariants.{Mail, Step, Try}
use Rattle.bip_schedule.specs.declared.busy.EventKind.{EventKind}

-- Of events by number, so many have something to do.

module _ (w : WorldContent) (at : ℕ → Event) where
  -- one more
  pub one_more : (below busy : ℕ) (e : Event) → HaveWork w at below busy → e ≡ at below
      → HasWork w e → HaveWork w at (below + 1) (busy + 1)
  one_more below busy e so here is =
      subst (λ (k : ℕ). HaveWork w at (below + 1) k) (omega arith)
      (subst (λ (k : ℕ). HaveWork w at k (suc busy)) (omega arith)
      (one_has so (subst (HasWork w) here is)))

  pub one_less : (below busy : ℕ) (e : Event) → HaveWork w at below busy → e ≡ at below
      → HasNoWork w e → HaveWork w at (below + 1) busy
  one_less below busy e so here is =
      subst (λ (k : ℕ). HaveWork w at k busy) (omega arith)
      (one_lacks so (subst (HasNoWork w) here is))

  -- none of some
  pub none_between : (from to busy : ℕ) → from ≤ to → HaveWork w at from busy
      → AreWithoutWork w at from to → HaveWork w at to busy
  none_between from zero busy low so none =
      subst (λ (k : ℕ). HaveWork w at k busy) (omega (arith, low)) so
  none_between from (suc to) busy low so none = elim (cases_lt to from) [
    | inl past ↦ subst (λ (k : ℕ). HaveWork w at k busy) (omega (arith, low, past)) so
    | inr later ↦ one_lacks (none_between from to busy (omega (arith, later)) so
        (λ i first last. none i first (omega (arith, last))))
        (none to (omega (arith, later)) (omega arith))
  ]

  -- all of them
  pub all_below : (below count busy : ℕ) → below ≡ count → HaveWork w at below busy
      → HaveWork w at count busy
  all_below below count busy is so = subst (λ (k : ℕ). HaveWork w at k busy) is so

  -- and those before one
  pub found_at : (count place busy before : ℕ) (e : Event) → place < count
      → HaveWork w at place busy → busy ≡ before → e ≡ at place → HasWork w e
      → IsBusyAmong w at count before e
  found_at count place busy before e within so is here work = record {
    place = place;
    within = within;
    before = subst (λ (k : ℕ). HaveWork w at place k) is so;
    is = here;
    work = work;
  }

  -- no more have something to do than there are
  pub few_work : (below x : ℕ) → HaveWork w at below x → x ≤ below
  few_work zero zero none_below = omega arith
  few_work zero (suc x) more = elim more [ ]
  few_work (suc below) (suc x) (one_has more is) = omega (arith, few_work below x more)
  few_work (suc below) x (one_lacks more is) = omega (arith, few_work below x more)

-- an event has something to do or has nothing to do, not both, where what is shared moves in one
-- way
work_or_not : (w : WorldContent) (e : Event) → MovesInOneWay w.bank.sharing → HasWork w e
    → HasNoWork w e → ⊥
work_or_not w (event.Mail place) way work none = omega (arith, work, none)
work_or_not w (event.Try k a) way work none = none work.0 work.1 work.2
work_or_not w (event.Bank step) way work none = no_reason w.bank step none.0 way none.1 work

-- so they are counted in one way
pub one_count : (w : WorldContent) (at : ℕ → Event) (below x y : ℕ) → MovesInOneWay w.bank.sharing
    → HaveWork w at below x → HaveWork w at below y → x ≡ y
one_count w at zero zero zero way none_below none_below = refl
one_count w at zero zero (suc y) way one other = elim other [ ]
one_count w at zero (suc x) y way one other = elim one [ ]
one_count w at (suc below) (suc x) (suc y) way (one_has one is) (one_has other so) =
    ap suc (one_count w at below x y way one other)
one_count w at (suc below) (suc x) y way (one_has one is) (one_lacks other so) =
    absurd (work_or_not w (at below) way is so)
one_count w at (suc below) x (suc y) way (one_lacks one is) (one_has other so) =
    absurd (work_or_not w (at below) way so is)
one_count w at (suc below) x y way (one_lacks one is) (one_lacks other so) =
    one_count w at below x y way one other

-- what is looked for behind fewer than there are is found
finds_some : (w : WorldContent) (at : ℕ → Event) (count behind busy : ℕ)
    → MovesInOneWay w.bank.sharing → HaveWork w at count busy → behind < busy
    → FindsNone w at count behind → ⊥
finds_some w at count behind busy way all few none =
    omega (arith, few, none.few, one_count w at count busy none.found way all none.all)

-- Arrivals have something to do.

-- a list with what stands at a place
parts_at : {A : Type 0} (xs : List A) (k : ℕ) → k < length xs
    → (front : List A) × (x : A) × (back : List A) × (length front ≡ k)
    × (xs ≡ front ++ x ∷ back)
parts_at [] k within = absurd (omega (arith, within))
parts_at (x ∷ xs) zero within = ([], x, xs, refl, refl)
parts_at (x ∷ xs) (suc k) within =
    let more = parts_at xs k (omega (arith, within)) in
    (x ∷ more.0, more.1, more.2, ap suc more.3, ap (λ ys. x ∷ ys) more.4)

arrives : (b : BankContent) (x : Sharing) (k : ℕ) → b.sharing ≡ x → MovesInOneWay x
    → k < in_flight x → CanWantMemory b (Deliver k)
arrives b alone k is way within = absurd (omega (arith, within))
arrives b (ring count (token_at h)) k is way within = absurd (omega (arith, within))
arrives b (ring count (token_to h)) k is way within =
    rw is (ring count (token_at h), (token_at h, (omega (arith, within), refl), refl))
arrives b (forks f) k is way within =
    let parts = parts_at f.flight k within in
    let later : ForkSharing = record {
      sides = arrived_at parts.1 f.sides;
      flight = parts.0 ++ parts.2;
    } in
    rw is (
      forks later,
      (
        later,
        record {
          front = parts.0;
          parcel = parts.1;
          back = parts.2;
          before = parts.3;
          whole = parts.4;
          after = refl;
        },
        refl,
      ),
    )
arrives b (otherwise lacking flying) k is way within = absurd way

arrival_works : (w : WorldContent) (kind : EventKind) (k : ℕ) → MovesInOneWay w.bank.sharing
    → k < arriving w kind → HasWork w (arrival_at kind k)
arrival_works w Mail k way within = within
arrival_works w Try k way within = absurd (omega (arith, within))
arrival_works w Step k way within = arrives w.bank w.bank.sharing k refl way within

-- All events of a kind, those that are arrivals first.

module _ (w : WorldContent) (n : ℕ) (kind : EventKind) (way : MovesInOneWay w.bank.sharing) where
  abbrev At : ℕ → Event
  At i = event_at w n kind i

  at_first : (k : ℕ) → k < arriving w kind → At k ≡ arrival_at kind k
  at_first k within =
      let here : nat_lt k (arriving w kind) ≡ true = grind (arith, nat_tests, within) in
      ap (λ (b : Bool). cond b (arrival_at kind k) (asked_at w.plan n kind (k - arriving w kind)))
      here

  at_next : (i : ℕ) → At (arriving w kind + i) ≡ asked_at w.plan n kind i
  at_next i =
      let behind : nat_lt (arriving w kind + i) (arriving w kind) ≡ false = grind (arith, nat_tests)
      in
      ap (λ (b : Bool). cond b (arrival_at kind (arriving w kind + i))
      (asked_at w.plan n kind (arriving w kind + i - arriving w kind))) behind
      ∙ ap (λ (j : ℕ). asked_at w.plan n kind j) (omega arith)

  arrivals : (k : ℕ) → k ≤ arriving w kind → HaveWork w At k k
  arrivals zero within = none_below
  arrivals (suc k) within =
      one_has (arrivals k (omega (arith, within)))
      (subst (HasWork w) (sym (at_first k (omega (arith, within))))
      (arrival_works w kind k way (omega (arith, within))))

  behind_them : (i busy : ℕ) → HaveWork w (asked_at w.plan n kind) i busy
      → HaveWork w At (arriving w kind + i) (arriving w kind + busy)
  behind_them zero zero none_below =
      subst (λ (k : ℕ). HaveWork w At k k) (omega arith)
      (arrivals (arriving w kind) (omega arith))
  behind_them zero (suc busy) more = elim more [ ]
  behind_them (suc i) (suc busy) (one_has more is) =
      subst (λ (k : ℕ). HaveWork w At (arriving w kind + suc i) k) (omega arith)
      (subst (λ (k : ℕ). HaveWork w At k (suc (arriving w kind + busy))) (omega arith)
      (one_has (behind_them i busy more) (subst (HasWork w) (sym (at_next i)) is)))
  behind_them (suc i) busy (one_lacks more is) =
      subst (λ (k : ℕ). HaveWork w At k (arriving w kind + busy)) (omega arith)
      (one_lacks (behind_them i busy more) (subst (HasNoWork w) (sym (at_next i)) is))

  abbrev Counted : ℕ → Type 0
  Counted asked = HaveWork w (asked_at w.plan n kind) (asked_count w.plan n kind) asked

  all_work : (asked : ℕ) → Counted asked
      → HaveWork w At (count_of_kind w n kind) (arriving w kind + asked)
  all_work asked so = behind_them (asked_count w.plan n kind) asked so

  -- there are none
  pub quiet_kind : (asked : ℕ) → Counted asked → arriving w kind + asked ≡ 0
      → IsQuietKind w n kind
  quiet_kind asked so none =
      subst (λ (k : ℕ). HaveWork w At (count_of_kind w n kind) k) none (all_work asked so)

  -- an arrival is taken
  pub arrival_taken : (asked number : ℕ) → Counted asked
      → number % (arriving w kind + asked) < arriving w kind
      → IsDrawnOfKind w n kind number (arrival_at kind (number % (arriving w kind + asked)))
  arrival_taken asked number so within = record {
    busy = arriving w kind + asked;
    all = all_work asked so;
    some = omega (arith, within);
    found = record {
      place = number % (arriving w kind + asked);
      within = omega (arith, within);
      before = arrivals (number % (arriving w kind + asked)) (omega (arith, within));
      is = sym (at_first (number % (arriving w kind + asked)) within);
      work = arrival_works w kind (number % (arriving w kind + asked)) way within;
    };
  }

  -- or one of those about which is asked
  pub asked_taken : (asked number before : ℕ) (e : Event) → Counted asked
      → 0 < arriving w kind + asked
      → arriving w kind + before ≡ number % (arriving w kind + asked)
      → IsBusyAmong w (asked_at w.plan n kind) (asked_count w.plan n kind) before e
      → IsDrawnOfKind w n kind number e
  asked_taken asked number before e so some is found = record {
    busy = arriving w kind + asked;
    all = all_work asked so;
    some = some;
    found = record {
      place = arriving w kind + found.place;
      within = omega (arith, found.within);
      before = subst (λ (k : ℕ). HaveWork w At (arriving w kind + found.place) k) is
          (behind_them found.place before found.before);
      is = found.is ∙ sym (at_next found.place);
      work = found.work;
    };
  }

  pub never_lost : (asked number before : ℕ) → Counted asked → 0 < arriving w kind + asked
      → arriving w kind + before ≡ number % (arriving w kind + asked)
      → FindsNone w (asked_at w.plan n kind) (asked_count w.plan n kind) before → ⊥
  never_lost asked number before so some is none =
      let few = mod_below number (arriving w kind + asked) some in
      finds_some w (asked_at w.plan n kind) (asked_count w.plan n kind) before asked way so
      (omega (arith, is, few)) none

-- what is found among them is taken, and something is
pub taken_of_asked : (w : WorldContent) (n : ℕ) (kind : EventKind) (asked number before : ℕ)
    (o : Option Event) → HaveWork w (asked_at w.plan n kind) (asked_count w.plan n kind) asked
    → 0 < arriving w kind + asked → arriving w kind + before ≡ number % (arriving w kind + asked)
    → IfSome o (IsBusyAmong w (asked_at w.plan n kind) (asked_count w.plan n kind) before)
    → IfSome o (λ (e : Event). MovesInOneWay w.bank.sharing → IsDrawnOfKind w n kind number e)
taken_of_asked w n kind asked number before None so some is found = tt
taken_of_asked w n kind asked number before (Some e) so some is found =
    λ way. asked_taken w n kind way asked number before e so some is found

pub none_of_asked : (w : WorldContent) (n : ℕ) (kind : EventKind) (asked number before : ℕ)
    (o : Option Event) → HaveWork w (asked_at w.plan n kind) (asked_count w.plan n kind) asked
    → 0 < arriving w kind + asked → arriving w kind + before ≡ number % (arriving w kind + asked)
    → IfNone o (FindsNone w (asked_at w.plan n kind) (asked_count w.plan n kind) before)
    → IfNone o (MovesInOneWay w.bank.sharing → IsQuietKind w n kind)
none_of_asked w n kind asked number before None so some is none =
    λ way. absurd (never_lost w n kind way asked number before so some is none)
none_of_asked w n kind asked number before (Some e) so some is none = tt

-- what can be spelled by any list of so many stations has a spelling
pub one_spelled : (p : Planned) (list : List InterId) (e : Event) → AreStations p list
    → ((xs : List InterId) → length xs ≡ length list → HasSpelling p xs e)
    → HaveSpelling p (e ∷ [])
one_spelled p list e listed so = λ stations are.
    All-cons (HasSpelling p stations) e []
    (so stations (ap (λ (xs : List InterId). length xs) (one_stations p stations list are listed)))
    (All-nil (HasSpelling p stations))

pub some_spelled : (p : Planned) (list : List InterId) (o : Option Event) → AreStations p list
    → ((xs : List InterId) → length xs ≡ length list → IfSome o (HasSpelling p xs))
    → IfSome o (λ (e : Event). HaveSpelling p (e ∷ []))
some_spelled p list None listed so = tt
some_spelled p list (Some e) listed so = one_spelled p list e listed so
