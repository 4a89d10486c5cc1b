-- Forks are a bank: each step of the machine is a bank's step, on what stations share without
-- numbers.
use Rattle.std.proofs.Common.{◌≡◌, ℕ, ◌<◌, Bool, true, false, ◌&&◌, cond, eqb, eqb-true, get_or}
use Rattle.std.proofs.Common.{length, map, set, List, [], ◌∷◌, ◌++◌, Option, None, Some, refl, sym}
use Rattle.std.proofs.Common.{ap, ◌∙◌, subst, inl, inr, arith}
use Rattle.std.specs.Prelude.{Contains}
use Rattle.std.proofs.lemmas.Bool.{and_parts, cases_lt}
use Rattle.std.proofs.lemmas.Bool.Decides.{eqb_tells}
use Rattle.std.proofs.lemmas.List.{get_or-set_other, get_or-set_same, get_or_past, length-append}
use Rattle.std.proofs.lemmas.List.{length-map, length-set, map-append}
use Rattle.std.proofs.lemmas.List.FromFn.{fill_by_all, get_or-map-range_with_len}
use Rattle.std.proofs.lemmas.List.FromFn.{length-map-range_with_len}
use Rattle.std.specs.List.{range_with_len}
use Rattle.std.proofs.lemmas.List.Elements.{Contains-append_right}
use Rattle.std.proofs.Math.Path.{fun_ext}
use Rattle.bip_model.proofs.HistoryLemmas.{used_by-push}
use Rattle.bip_model.proofs.ListLemmas.{Contains-head}
use Rattle.bip_model.specs.Numbering.{put}
use Rattle.bip_model.specs.Wants.{raised}
use Rattle.bip_model.specs.declared.grants.Grant.{Grant}
use Rattle.bip_model.specs.declared.messages.Request.{Request}
use Rattle.bip_table.specs.Reservations.{IsDecision, grant_of}
use Rattle.bip_table.specs.declared.reservations.Decision.{Decision}
use Rattle.bip_table.specs.declared.reservations.Decision.TheVariants.{Granted, Refused}
use Rattle.bip_bank.proofs.UsedLemmas.{refused_stale}
use Rattle.bip_bank.specs.Banks.{BankContent, CanDecide, DoesStep, HasOldest, IsActed, IsEnded}
use Rattle.bip_bank.specs.Banks.{IsStationOf, with_decision}
use Rattle.bip_bank.specs.Central.{IsOpen}
use Rattle.bip_bank.specs.ForkSharing.{ForkSharing, ForkSide, ForkState, HasEachFork, Parcel}
use Rattle.bip_bank.specs.ForkSharing.{TakesForks, arrived_at, away, clean, dirty, made_dirty}
use Rattle.bip_bank.specs.ForkSharing.{side_of, with_clean, with_dirty, with_side, with_token}
use Rattle.bip_bank.specs.Sharing.{Sharing, forks}
use Rattle.bip_bank.specs.declared.banks.Acted.{Acted}
use Rattle.bip_bank.specs.declared.banks.Acted.TheVariants.{Answered, Moved, Nothing}
use Rattle.bip_bank.specs.declared.banks.BankStep.{BankStep}
use Rattle.bip_bank.specs.declared.banks.BankStep.TheVariants.{Ask, Deliver, Pass, Serve}
use Rattle.bip_bank.specs.declared.banks.StationId.{StationId}
use Rattle.bip_forks.proofs.HoldLemmas.{decision_same, fresh_same, rows_exact, share_swap}
use Rattle.bip_forks.proofs.HoldLemmas.{want_touches}
use Rattle.bip_forks.proofs.ServeLemmas.{served_exact}
use Rattle.bip_forks.specs.Laws.{ForksAreABank, content, parcel_of, sharing_of, side_between}
use Rattle.bip_forks.specs.Laws.{fork_state, table_of}
use Rattle.bip_forks.specs.Machines.{AreForks, Applies, CanServe, HasAll, IsListed, IsStationAsked}
use Rattle.bip_forks.specs.Machines.{IsAskedFor, HasArrived, IsPassed, IsServed, IsForkWritten}
use Rattle.bip_forks.specs.Machines.{LyingFork, Machine, Net, Sending, ShareFork, arrived}
use Rattle.bip_forks.specs.Machines.{grants_after, put_at_two, rows_after, sent_fork, sent_token}
use Rattle.bip_forks.specs.Machines.{used_by_all}

-- what is known of a state
dirty_here : (x : Option LyingFork) → fork_state x ≡ dirty → (f : LyingFork) × (x ≡ Some f)
    × (f.clean ≡ false)
dirty_here None is = cc
dirty_here (Some f) is = by_test f.clean refl is
  where
    by_test : (b : Bool) → f.clean ≡ b → cond b clean dirty ≡ dirty → (g : LyingFork)
        × (Some f ≡ Some g) × (g.clean ≡ false)
    by_test true was is' = cc
    by_test false was is' = (f, refl, was)

away_here : (x : Option LyingFork) → fork_state x ≡ away → x ≡ None
away_here None is = refl
away_here (Some f) is = by_test f.clean is
  where
    by_test : (b : Bool) → cond b clean dirty ≡ away → Some f ≡ None
    by_test true is' = cc
    by_test false is' = cc

is_dirty : (x : Option LyingFork) (f : LyingFork) → x ≡ Some f → f.clean ≡ false
    → fork_state x ≡ dirty
is_dirty x f same unclean = ap fork_state same
    ∙ ap {B = ForkState} (λ (b : Bool). cond b clean dirty) unclean

pub not_away : (x : Option LyingFork) (f : LyingFork) → x ≡ Some f → fork_state x ≡ away → ⊥
not_away x f same is = let none = away_here x is in none_some (sym none ∙ same)
  where
    none_some : None ≡ Some f → ⊥
    none_some e = cc

-- what a station has of what it shares
side_cases : (shares : ℕ → ℕ → Bool) (lying : ℕ → ℕ → Option LyingFork) (tokens : ℕ → ℕ → Bool)
    (s t : ℕ) (side : ForkSide) → side_between shares lying tokens s t ≡ Some side
    → (shares s t ≡ true) × (side.fork ≡ fork_state (lying s t)) × (side.token ≡ tokens s t)
side_cases shares lying tokens s t side is = by_test (shares s t) refl is
  where
    by_test : (b : Bool) → shares s t ≡ b → cond b
        (Some (record { fork = fork_state (lying s t); token = tokens s t })) None ≡ Some side
        → (shares s t ≡ true) × (side.fork ≡ fork_state (lying s t)) × (side.token ≡ tokens s t)
    by_test true was is' =
        let same : side ≡ record { fork = fork_state (lying s t); token = tokens s t } = cc in
        (was, ap (λ (x : ForkSide). x.fork) same, ap (λ (x : ForkSide). x.token) same)
    by_test false was is' = cc

side_here : (shares : ℕ → ℕ → Bool) (lying : ℕ → ℕ → Option LyingFork) (tokens : ℕ → ℕ → Bool)
    (s t : ℕ) → shares s t ≡ true → side_between shares lying tokens s t
    ≡ Some (record { fork = fork_state (lying s t); token = tokens s t })
side_here shares lying tokens s t is = rw is refl

-- with another fork, or another token, at a pair
put_fork : (shares : ℕ → ℕ → Bool) (lying : ℕ → ℕ → Option LyingFork) (tokens : ℕ → ℕ → Bool)
    (a b : ℕ) (x : Option LyingFork) → shares a b ≡ true
    → side_between shares (put_at_two lying a b x) tokens ≡ put_at_two
    (side_between shares lying tokens) a b
    (Some (record { fork = fork_state x; token = tokens a b }))
put_fork shares lying tokens a b x share = fun_ext
    (λ s. fun_ext (λ t. by_test s t (eqb s a && eqb t b) refl))
  where
    by_test : (s t : ℕ) (c : Bool) → (eqb s a && eqb t b) ≡ c
        → cond (shares s t) (Some (record {
          fork = fork_state (cond c x (lying s t));
          token = tokens s t;
        })) None
        ≡ cond c (Some (record { fork = fork_state x; token = tokens a b }))
        (side_between shares lying tokens s t)
    by_test s t true both =
        let parts = and_parts (eqb s a) (eqb t b) both in
        rw (eqb-true s a parts.0, eqb-true t b parts.1, share) refl
    by_test s t false other = refl

put_token : (shares : ℕ → ℕ → Bool) (lying : ℕ → ℕ → Option LyingFork) (tokens : ℕ → ℕ → Bool)
    (a b : ℕ) (x : Bool) → shares a b ≡ true
    → side_between shares lying (put_at_two tokens a b x) ≡ put_at_two
    (side_between shares lying tokens) a b
    (Some (record { fork = fork_state (lying a b); token = x }))
put_token shares lying tokens a b x share = fun_ext
    (λ s. fun_ext (λ t. by_test s t (eqb s a && eqb t b) refl))
  where
    by_test : (s t : ℕ) (c : Bool) → (eqb s a && eqb t b) ≡ c
        → cond (shares s t) (Some (record {
          fork = fork_state (lying s t);
          token = cond c x (tokens s t);
        })) None
        ≡ cond c (Some (record { fork = fork_state (lying a b); token = x }))
        (side_between shares lying tokens s t)
    by_test s t true both =
        let parts = and_parts (eqb s a) (eqb t b) both in
        rw (eqb-true s a parts.0, eqb-true t b parts.1, share) refl
    by_test s t false other = refl

-- with other forks of a station, all of them dirty
put_dirty : (shares : ℕ → ℕ → Bool) (lying : ℕ → ℕ → Option LyingFork) (tokens : ℕ → ℕ → Bool)
    (s : ℕ) (g : ℕ → Option LyingFork) → ((t : ℕ) → shares s t ≡ true → fork_state (g t) ≡ dirty)
    → side_between shares (put lying s g) tokens ≡ put (side_between shares lying tokens) s
    (λ t. with_dirty (side_between shares lying tokens s t))
put_dirty shares lying tokens s g made = fun_ext (λ i. fun_ext (λ t. elim (eqb_tells i s) [
  | inl same ↦ rw (same.0, same.1) (row t (shares s t) refl)
  | inr other ↦ rw other.0 refl
]))
  where
    row : (t : ℕ) (b : Bool) → shares s t ≡ b
        → cond b (Some (record { fork = fork_state (g t); token = tokens s t })) None ≡ with_dirty
        (cond b (Some (record { fork = fork_state (lying s t); token = tokens s t })) None)
    row t true is = ap {B = Option ForkSide} (λ (x : ForkState).
        Some (record { fork = x; token = tokens s t })) (made t is)
    row t false is = refl

-- tables of functions
row_at : {X : Type 0} (g : ℕ → X) (n t : ℕ) (d : X) → t < n
    → get_or (map g (range_with_len 0 n)) t d ≡ g t
row_at g n t d within = get_or-map-range_with_len g 0 n t t d within (omega arith)

pub table_row : (f : ℕ → ℕ → Option ForkSide) (n s : ℕ) → s < n
    → get_or (table_of n f) s [] ≡ map (f s) (range_with_len 0 n)
table_row f n s within = row_at (λ i. map (f i) (range_with_len 0 n)) n s [] within

pub table_at : (f : ℕ → ℕ → Option ForkSide) (n s t : ℕ) → s < n → t < n
    → side_of (table_of n f) s t ≡ f s t
table_at f n s t one other = ap (λ (xs : List (Option ForkSide)). get_or xs t None)
    (table_row f n s one) ∙ row_at (f s) n t None other

table_has : (f : ℕ → ℕ → Option ForkSide) (n s t : ℕ) (x : ForkSide)
    → side_of (table_of n f) s t ≡ Some x → f s t ≡ Some x
table_has f n s t x is = elim (cases_lt s n) [
  | inl one ↦ elim (cases_lt t n) [
    | inl other ↦ sym (table_at f n s t one other) ∙ is
    | inr past ↦ absurd (none_some (sym (ap (λ (xs : List (Option ForkSide)). get_or xs t None)
        (table_row f n s one) ∙ get_or_past (map (f s) (range_with_len 0 n)) t None
        (omega (arith, past, length-map-range_with_len (f s) 0 n))) ∙ is))
  ]
  | inr past ↦ absurd (none_some (sym (ap (λ (xs : List (Option ForkSide)). get_or xs t None)
      (get_or_past (table_of n f) s [] (omega (
        arith,
        past,
        length-map-range_with_len (λ i. map (f i) (range_with_len 0 n)) 0 n,
      )))) ∙ is))
]
  where
    none_some : None ≡ Some x → ⊥
    none_some e = cc

row_put : {X : Type 0} (g : ℕ → X) (n t : ℕ) (x : X) → t < n
    → map (put g t x) (range_with_len 0 n) ≡ set (map g (range_with_len 0 n)) t x
row_put {X = X} g n t x within = sym (fill_by_all (put g t x)
    (set (map g (range_with_len 0 n)) t x) n x
    (length-set (map g (range_with_len 0 n)) t x ∙ length-map-range_with_len g 0 n) each)
  where
    each : (k : ℕ) → k < n → get_or (set (map g (range_with_len 0 n)) t x) k x ≡ put g t x k
    each k known = elim (eqb_tells k t) [
      | inl same ↦ rw (same.0, same.1) (get_or-set_same (map g (range_with_len 0 n)) t x x
          (omega (arith, within, length-map-range_with_len g 0 n)))
      | inr other ↦ rw (other.0, get_or-set_other (map g (range_with_len 0 n)) t k x x other.1)
          (row_at g n k x known)
    ]

rows_put : (f : ℕ → ℕ → Option ForkSide) (n s : ℕ) (g : ℕ → Option ForkSide) → s < n
    → table_of n (put f s g) ≡ set (table_of n f) s (map g (range_with_len 0 n))
rows_put f n s g within = sym (fill_by_all (λ i. map (put f s g i) (range_with_len 0 n))
    (set (table_of n f) s (map g (range_with_len 0 n))) n []
    (length-set (table_of n f) s (map g (range_with_len 0 n))
    ∙ length-map-range_with_len (λ i. map (f i) (range_with_len 0 n)) 0 n) each)
  where
    each : (k : ℕ) → k < n → get_or (set (table_of n f) s (map g (range_with_len 0 n))) k [] ≡ map
        (put f s g k) (range_with_len 0 n)
    each k known = elim (eqb_tells k s) [
      | inl same ↦ rw (same.0, same.1) (get_or-set_same (table_of n f) s
          (map g (range_with_len 0 n)) [] (omega (
            arith,
            within,
            length-map-range_with_len (λ i. map (f i) (range_with_len 0 n)) 0 n,
          )))
      | inr other ↦ rw (
        other.0,
        get_or-set_other (table_of n f) s k (map g
            (range_with_len 0 n)) [] other.1,
      ) (table_row f n k known)
    ]

-- one pair is a row with another value at a place
pub pair_put : {X : Type 0} (f : ℕ → ℕ → X) (s t : ℕ) (x : X)
    → put_at_two f s t x ≡ put f s (put (f s) t x)
pair_put {X = X} f s t x = fun_ext (λ i. fun_ext (λ j. elim (eqb_tells i s) [
  | inl same ↦ rw (same.0, same.1) refl
  | inr other ↦ rw other.0 refl
]))

table_put : (f : ℕ → ℕ → Option ForkSide) (n s t : ℕ) (x : Option ForkSide) → s < n → t < n
    → table_of n (put_at_two f s t x) ≡ with_side (table_of n f) s t x
table_put f n s t x one other =
    ap (table_of n) (pair_put f s t x) ∙ (rows_put f n s (put (f s) t x) one
    ∙ ap (set (table_of n f) s) (row_put (f s) n t x other
    ∙ ap (λ (xs : List (Option ForkSide)). set xs t x) (sym (table_row f n s one))))

pub map_twice : {X Y Z : Type 0} (g : Y → Z) (f : X → Y) (xs : List X)
    → map (λ x. g (f x)) xs ≡ map g (map f xs)
map_twice g f [] = refl
map_twice g f (x ∷ xs) = ap (λ ys. g (f x) ∷ ys) (map_twice g f xs)

table_dirty : (f : ℕ → ℕ → Option ForkSide) (n s : ℕ) → s < n
    → table_of n (put f s (λ t. with_dirty (f s t))) ≡ set (table_of n f) s
    (map with_dirty (get_or (table_of n f) s []))
table_dirty f n s within =
    rows_put f n s (λ t. with_dirty (f s t)) within
    ∙ ap (set (table_of n f) s) (map_twice with_dirty (f s) (range_with_len 0 n)
    ∙ ap (map with_dirty) (sym (table_row f n s within)))

abbrev shared_by : List (List (Option ForkSide)) → List Parcel → ForkSharing
shared_by a x = record { sides = a; flight = x }

same_sharing : (a b : List (List (Option ForkSide))) (x y : List Parcel) → a ≡ b → x ≡ y
    → shared_by a x ≡ shared_by b y
same_sharing a b x y sides' flight' = rw (sides', flight') refl

abbrev between : Machine → ℕ → ℕ → Option ForkSide
between m = side_between m.net.shares m.forks m.tokens

pub side_is : (m : Machine) (s t : ℕ) (x : ForkState) (k : Bool) → ShareFork m.net s t
    → m.net.shares s t ≡ true → fork_state (m.forks s t) ≡ x → m.tokens s t ≡ k
    → side_of (sharing_of m).sides s t ≡ Some (record { fork = x; token = k })
side_is m s t x k share is state token =
    table_at (between m) m.net.count s t share.one share.other
    ∙ (side_here m.net.shares m.forks m.tokens s t is
    ∙ (ap {B = Option ForkSide} (λ (y : ForkState).
    Some (record { fork = y; token = m.tokens s t })) state
    ∙ ap {B = Option ForkSide} (λ (j : Bool). Some (record { fork = x; token = j })) token))

-- what is read of what stations share
pub side_read : (m : Machine) (s t : ℕ) (side : ForkSide)
    → side_of (sharing_of m).sides s t ≡ Some side → (m.net.shares s t ≡ true)
    × (side.fork ≡ fork_state (m.forks s t)) × (side.token ≡ m.tokens s t)
side_read m s t side is = side_cases m.net.shares m.forks m.tokens s t side
    (table_has (between m) m.net.count s t side is)

pub no_side : (m : Machine) (s t : ℕ) → m.net.shares s t ≡ false
    → side_of (sharing_of m).sides s t ≡ None
no_side m s t apart = by_side (side_of (sharing_of m).sides s t) refl
  where
    by_side : (o : Option ForkSide) → side_of (sharing_of m).sides s t ≡ o
        → side_of (sharing_of m).sides s t ≡ None
    by_side None is = is
    by_side (Some side) is = let at = side_read m s t side is in cc

-- a station has all its forks, whether numbers are looked at or not
pub has_all_of : (m : Machine) (s : ℕ) → AreForks m → HasEachFork (sharing_of m) s
    → HasAll m.net m.forks s
has_all_of m s are each = λ t share. by_lying t (m.forks s t) refl share
  where
    by_lying : (t : ℕ) (x : Option LyingFork) → m.forks s t ≡ x → ShareFork m.net s t
        → (f : LyingFork) × (m.forks s t ≡ Some f)
    by_lying t None is share = absurd (each t
        (record { fork = fork_state (m.forks s t); token = m.tokens s t })
        (side_is m s t (fork_state (m.forks s t)) (m.tokens s t) share
        ((are.net.share s t).1 share) refl refl) (ap fork_state is))
    by_lying t (Some f) is share = (f, is)

pub each_of : (m : Machine) (s : ℕ) → AreForks m → HasAll m.net m.forks s
    → HasEachFork (sharing_of m) s
each_of m s are complete = λ t side is gone.
    let at = side_read m s t side is in
    let fork = complete t ((are.net.share s t).0 at.0) in
    not_away (m.forks s t) fork.0 fork.1 (sym at.1 ∙ gone)

-- open requests of a station, as the bank has them
pub oldest_of : (m : Machine) (s : ℕ) → AreForks m → HasOldest (content m) s → IsStationAsked m s
oldest_of m s are has = let known = are.net.known s has.number has.station in
    (has.request, has.rest, ap m.waiting known.1 ∙ has.first)

pub asked_oldest : (m : Machine) (s : ℕ) → AreForks m → s < m.net.count → IsStationAsked m s
    → HasOldest (content m) s
asked_oldest m s are known (q, rest, is) = record {
  number = m.net.inter s;
  request = q;
  rest = rest;
  station = are.net.station s known;
  first = is;
}

-- steps that do nothing
pass_nothing : (m : Machine) (s t : StationId) → (¬ Applies m (Pass s t)) → (to : ForkSharing)
    → ¬ TakesForks (HasOldest (content m)) (sharing_of m) (Pass s t) to
pass_nothing m s t not to is =
    let at = side_read m s.0 t.0 (record { fork = dirty; token = true }) is.here in
    let f = dirty_here (m.forks s.0 t.0) (sym at.1) in
    not (f.0, sym at.2, f.1, f.2)

ask_nothing : (m : Machine) (s t : StationId) → AreForks m → (¬ Applies m (Ask s t))
    → (to : ForkSharing) → ¬ TakesForks (HasOldest (content m)) (sharing_of m) (Ask s t) to
ask_nothing m s t are not to (waits, is) =
    let at = side_read m s.0 t.0 (record { fork = away; token = true }) is.here in
    not (oldest_of m s.0 are waits, sym at.2, away_here (m.forks s.0 t.0) (sym at.1))

deliver_nothing : (m : Machine) (k : ℕ) → (¬ Applies m (Deliver k)) → (to : ForkSharing)
    → ¬ TakesForks (HasOldest (content m)) (sharing_of m) (Deliver k) to
deliver_nothing m k not to is =
    not (omega (
      arith,
      ap length is.whole,
      length-map m.flight parcel_of,
      length-append is.front (is.parcel ∷ is.back),
      is.before,
    ))

-- what a step does in the bank
abbrev DoesInBank : Machine → BankStep → Acted → Machine → Type 0
DoesInBank m step did later = DoesStep (content m) step did (content later)
    × IsActed did (content m) (content later)

does_pass : (m later : Machine) (s t : StationId) → AreForks m → IsPassed m s.0 t.0 later
    → DoesInBank m (Pass s t) Moved later
does_pass m later s t are is = subst (DoesInBank m (Pass s t) Moved) (sym is.after) (
  (
    sharing_of next,
    record {
      here = side_is m s.0 t.0 dirty true sharing share
          (is_dirty (m.forks s.0 t.0) is.fork is.here is.dirty) is.asked;
      after = same_sharing _ _ _ _ (ap (table_of m.net.count)
          (put_fork m.net.shares m.forks m.tokens s.0 t.0 None share)
          ∙ (table_put (between m) m.net.count s.0 t.0
          (Some (record { fork = away; token = m.tokens s.0 t.0 })) sharing.one sharing.other
          ∙ ap (λ (k : Bool). with_side (sharing_of m).sides s.0 t.0
          (Some (record { fork = away; token = k }))) is.asked))
          (map-append parcel_of m.flight (sent_fork s.0 t.0 is.fork.numbers ∷ []));
    },
    refl,
  ),
  refl,
)
  where
    next : Machine
    next = record m {
      forks = put_at_two m.forks s.0 t.0 None;
      flight = m.flight ++ sent_fork s.0 t.0 is.fork.numbers ∷ [];
    }

    sharing : ShareFork m.net s.0 t.0
    sharing = are.shared s.0 t.0 is.fork is.here

    share : m.net.shares s.0 t.0 ≡ true
    share = (are.net.share s.0 t.0).1 sharing

does_ask : (m later : Machine) (s t : StationId) → AreForks m → IsAskedFor m s.0 t.0 later
    → DoesInBank m (Ask s t) Moved later
does_ask m later s t are is = subst (DoesInBank m (Ask s t) Moved) (sym is.after) (
  (
    sharing_of next,
    (
      asked_oldest m s.0 are (are.token_shared s.0 t.0 is.asked).one is.waits,
      record {
        here = side_is m s.0 t.0 away true sharing share (ap fork_state is.away) is.asked;
        after = same_sharing _ _ _ _ (ap (table_of m.net.count)
            (put_token m.net.shares m.forks m.tokens s.0 t.0 false share)
            ∙ (table_put (between m) m.net.count s.0 t.0
            (Some (record { fork = fork_state (m.forks s.0 t.0); token = false })) sharing.one
            sharing.other ∙ ap (λ (x : Option LyingFork). with_side (sharing_of m).sides s.0 t.0
            (Some (record { fork = fork_state x; token = false }))) is.away))
            (map-append parcel_of m.flight (sent_token s.0 t.0 ∷ []));
      },
    ),
    refl,
  ),
  refl,
)
  where
    next : Machine
    next = record m {
      tokens = put_at_two m.tokens s.0 t.0 false;
      flight = m.flight ++ sent_token s.0 t.0 ∷ [];
    }

    sharing : ShareFork m.net s.0 t.0
    sharing = are.token_shared s.0 t.0 is.asked

    share : m.net.shares s.0 t.0 ≡ true
    share = (are.net.share s.0 t.0).1 sharing

-- with what arrived, without numbers
arrives : (m : Machine) (x : Sending) (flight : List Sending) → AreForks m → Contains m.flight x
    → sharing_of (arrived x (record m { flight = flight })) ≡ shared_by
    (arrived_at (parcel_of x) (sharing_of m).sides) (map parcel_of flight)
arrives m (sent_fork a b n) flight are has =
    let sharing = share_swap m.net a b (are.sent_shared a b n has) in
    let share = (are.net.share b a).1 sharing in
    same_sharing _ _ _ _ (ap (table_of m.net.count)
    (put_fork m.net.shares m.forks m.tokens b a
    (Some (record { clean = true; numbers = n })) share)
    ∙ (table_put (between m) m.net.count b a (Some (record { fork = clean; token = m.tokens b a }))
    sharing.one sharing.other
    ∙ ap (λ (y : Option ForkSide). with_side (sharing_of m).sides b a (with_clean y))
    (sym (side_is m b a (fork_state (m.forks b a)) (m.tokens b a) sharing share refl refl))))
    refl
arrives m (sent_token a b) flight are has =
    let sharing = share_swap m.net a b (are.sent_token_shared a b has) in
    let share = (are.net.share b a).1 sharing in
    same_sharing _ _ _ _ (ap (table_of m.net.count)
    (put_token m.net.shares m.forks m.tokens b a true share)
    ∙ (table_put (between m) m.net.count b a (Some (record {
      fork = fork_state (m.forks b a);
      token = true;
    })) sharing.one sharing.other
    ∙ ap (λ (y : Option ForkSide). with_side (sharing_of m).sides b a (with_token y))
    (sym (side_is m b a (fork_state (m.forks b a)) (m.tokens b a) sharing share refl refl))))
    refl

does_deliver : (m later : Machine) (k : ℕ) → AreForks m → HasArrived m k later
    → DoesInBank m (Deliver k) Moved later
does_deliver m later k are is = subst (DoesInBank m (Deliver k) Moved) (sym is.after) (
  (
    sharing_of next,
    record {
      front = map parcel_of is.front;
      parcel = parcel_of is.sent;
      back = map parcel_of is.back;
      before = length-map is.front parcel_of ∙ is.before;
      whole = ap (map parcel_of) is.whole ∙ map-append parcel_of is.front (is.sent ∷ is.back);
      after = arrives m is.sent (is.front ++ is.back) are has
          ∙ ap (shared_by (arrived_at (parcel_of is.sent) (sharing_of m).sides))
          (map-append parcel_of is.front is.back);
    },
    refl,
  ),
  by_sent is.sent,
)
  where
    next : Machine
    next = arrived is.sent (record m { flight = is.front ++ is.back })

    has : Contains m.flight is.sent
    has = rw is.whole (Contains-append_right is.front (is.sent ∷ is.back) is.sent
        (Contains-head is.sent is.back))

    by_sent : (x : Sending) → IsActed Moved (content m)
        (content (arrived x (record m { flight = is.front ++ is.back })))
    by_sent (sent_fork a b n) = refl
    by_sent (sent_token a b) = refl

-- a decision by raised rows is one by the used numbers of all grants
decides_exactly : (m later : Machine) (s : ℕ) (q : Request) (d : Decision) → AreForks m
    → IsServed m s q d later → IsOpen m.net.plan (m.net.inter s) q
    → IsDecision (used_by_all m.net m.grants) q.wants d
decides_exactly m later s q d are is fit =
    decision_same is.rows (used_by_all m.net m.grants) q.wants d
    (λ c wanted. served_exact m later s q d are is c
    (rw (← fit.1) (want_touches m.net.plan.model q.inter.0 q.wants c fit.0.parties wanted)))
    is.decision

abbrev with_parts : Machine → (ℕ → ℕ) → List Grant → (ℕ → List Request) → Sharing → BankContent
with_parts m u gs w x = record {
  plan = m.net.plan;
  base = m.net.base;
  used = u;
  grants = gs;
  waiting = w;
  sharing = x;
}

same_content : (m : Machine) (u v : ℕ → ℕ) (gs : List Grant) (w x : ℕ → List Request) (y : Sharing)
    → u ≡ v → w ≡ x
    → with_parts m u gs w y ≡ with_parts m v gs x y
same_content m u v gs w x y numbers waiting = rw (numbers, waiting) refl

content_after : (m : Machine) (s : ℕ) (q : Request) (d : Decision) (rest : List Request)
    (x : Sharing) → q.inter.0 ≡ m.net.inter s
    → with_parts m (used_by_all m.net (grants_after m.grants q d)) (grants_after m.grants q d)
    (put m.waiting (m.net.inter s) rest) x
    ≡ record (with_decision q d (content m)) { waiting = put m.waiting q.inter.0 rest; sharing = x }
content_after m s q (Granted n) rest x same =
    same_content m (used_by_all m.net (m.grants ++ grant_of q ∷ []))
    (raised (used_by_all m.net m.grants) q.wants) (m.grants ++ grant_of q ∷ [])
    (put m.waiting (m.net.inter s) rest) (put m.waiting q.inter.0 rest) x
    (used_by-push (λ c. m.net.base) m.grants (grant_of q))
    (ap (λ a. put m.waiting a rest) (sym same))
content_after m s q (Refused c n) rest x same =
    same_content m (used_by_all m.net m.grants) (used_by_all m.net m.grants) m.grants
    (put m.waiting (m.net.inter s) rest) (put m.waiting q.inter.0 rest) x refl
    (ap (λ a. put m.waiting a rest) (sym same))

-- a station that can decide for the bank can serve
can_serve : (m : Machine) (s : ℕ) → AreForks m → CanDecide (content m) s → CanServe m s
can_serve m s are can =
    let known = are.net.known s can.oldest.number can.oldest.station in
    let oldest : m.waiting (m.net.inter s) ≡ can.oldest.request ∷ can.oldest.rest =
    rw known.1 can.oldest.first in
    let fit : IsOpen m.net.plan (m.net.inter s) can.oldest.request =
    are.fit (m.net.inter s) can.oldest.request
    (rw oldest (Contains-head can.oldest.request can.oldest.rest)) in
    let complete = has_all_of m s are can.complete in
    record {
      station = known.0;
      complete = complete;
      request = can.oldest.request;
      rest = can.oldest.rest;
      oldest = oldest;
      left = λ ended. can.left (
        fresh_same ended.rows (used_by_all m.net m.grants) can.oldest.request.wants (λ c wanted.
            rows_exact m.net m.grants m.forks (m.used s) s ended.rows are.net are.allowed
            (λ t f lies. are.hold s t f lies)
            (are.own s known.0) known.0 complete ended.raised c
            (rw (← fit.1) (want_touches m.net.plan.model can.oldest.request.inter.0
            can.oldest.request.wants c fit.0.parties wanted))) ended.fresh,
        ended.last,
      );
    }

-- forks that are written are dirty
written_dirty : (n : Net) (s t : ℕ) (rows : ℕ → ℕ) (x y : Option LyingFork) (f : LyingFork)
    → IsForkWritten n s t rows x y → x ≡ Some f → fork_state y ≡ dirty
written_dirty n s t rows None y f written is = cc
written_dirty n s t rows (Some k) None f written is = absurd written
written_dirty n s t rows (Some k) (Some g) f written is = is_dirty (Some g) g refl written.0

not_ended : (m : Machine) (q : Request) (d : Decision) → IsListed m.grants d
    → IsDecision (used_by_all m.net m.grants) q.wants d → ¬ IsEnded (content m) q
not_ended m q (Granted n) listed decision ended = omega (arith, listed, ended.1)
not_ended m q (Refused c n) listed decision ended =
    refused_stale (used_by_all m.net m.grants) q.wants c n decision ended.0

does_serve : (m later : Machine) (s : StationId) (q : Request) (d : Decision) → AreForks m
    → IsServed m s.0 q d later → DoesInBank m (Serve s) (Answered q d) later
does_serve m later s q d are is = (
  (each_of m s.0 are is.complete, station),
  record {
    rest = is.rest;
    oldest = ap m.waiting fit.1 ∙ is.oldest;
    decision = decides_exactly m later s.0 q d are is fit;
    left = not_ended m q d is.listed (decides_exactly m later s.0 q d are is fit);
    sharing = (s.0, station, shared);
    after = ap content is.after ∙ content_after m s.0 q d is.rest _ fit.1
        ∙ ap (λ (x : Sharing). record (with_decision q d (content m)) {
          waiting = put m.waiting q.inter.0 is.rest;
          sharing = x;
        })
        (sym (ap (λ (x : Machine). forks (sharing_of x)) is.after));
  },
)
  where
    fit : IsOpen m.net.plan (m.net.inter s.0) q
    fit = are.fit (m.net.inter s.0) q (rw is.oldest (Contains-head q is.rest))

    station : IsStationOf m.net.plan s.0 q.inter.0
    station = rw fit.1 (are.net.station s.0 is.station)

    made : (t : ℕ) → m.net.shares s.0 t ≡ true → fork_state (is.forks t) ≡ dirty
    made t share = let fork = is.complete t ((are.net.share s.0 t).0 share) in
        written_dirty m.net s.0 t (rows_after is.rows q d) (m.forks s.0 t) (is.forks t) fork.0
        (is.written t) fork.1

    shared : forks (sharing_of later) ≡ forks (made_dirty s.0 (sharing_of m))
    shared = ap (λ (x : Machine). forks (sharing_of x)) is.after
        ∙ ap forks (same_sharing _ _ _ _ (ap (table_of m.net.count)
        (put_dirty m.net.shares m.forks m.tokens s.0 is.forks made)
        ∙ table_dirty (between m) m.net.count s.0 is.station) refl)

does_nothing : (m later : Machine) (step : BankStep) → DoesStep (content m) step Nothing (content m)
    → later ≡ m → DoesInBank m step Nothing later
does_nothing m later step does same = subst (DoesInBank m step Nothing) (sym same) (does, refl)

pub forks_bank : ForksAreABank
forks_bank m later (Deliver k) Nothing are is =
    does_nothing m later (Deliver k) (deliver_nothing m k is.0) is.1
forks_bank m later (Pass s t) Nothing are is =
    does_nothing m later (Pass s t) (pass_nothing m s t is.0) is.1
forks_bank m later (Ask s t) Nothing are is =
    does_nothing m later (Ask s t) (ask_nothing m s t are is.0) is.1
forks_bank m later (Serve s) Nothing are is =
    does_nothing m later (Serve s) (λ can. is.0 (can_serve m s.0 are can)) is.1
forks_bank m later (Deliver k) Moved are is = does_deliver m later k are is
forks_bank m later (Pass s t) Moved are is = does_pass m later s t are is
forks_bank m later (Ask s t) Moved are is = does_ask m later s t are is
forks_bank m later (Serve s) Moved are is = absurd is
forks_bank m later (Deliver k) (Answered q d) are is = absurd is
forks_bank m later (Pass s t) (Answered q d) are is = absurd is
forks_bank m later (Ask s t) (Answered q d) are is = absurd is
forks_bank m later (Serve s) (Answered q d) are is = does_serve m later s q d are is
