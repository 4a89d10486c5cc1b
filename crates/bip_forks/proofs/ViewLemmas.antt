-- What is kept, seen as a machine: what it is with another station, or something else of what one
-- shares.
use Rattle.std.proofs.Common.{◌≡◌, ◌≢◌, ℕ, zero, suc, ◌<◌, Bool, true, false, eqb, eq-eqb, length}
use Rattle.std.proofs.Common.{map, set, List, [], ◌∷◌, Option, refl, sym, ap, ◌∙◌, inl, inr, arith}
use Rattle.std.proofs.lemmas.Bool.{cases_lt, false≢true}
use Rattle.std.proofs.lemmas.Bool.Decides.{eqb_tells}
use Rattle.std.proofs.lemmas.List.{get_or_past, length-set}
use Rattle.std.proofs.Math.Path.{fun_ext}
use Rattle.bip_model.proofs.PutLemmas.{read-set}
use Rattle.bip_model.specs.Numbering.{put}
use Rattle.bip_model.specs.declared.grants.Grant.{Grant}
use Rattle.bip_model.specs.declared.messages.Request.{Request}
use Rattle.bip_table.specs.Rows.{used_at}
use Rattle.bip_forks.proofs.SharingLemmas.{pair_put}
use Rattle.bip_forks.specs.Kept.{KeptForks, lying, machine_of, net_of, no_station, sending_of}
use Rattle.bip_forks.specs.Kept.{side_at, station_at, waiting_of}
use Rattle.bip_forks.specs.Machines.{LyingFork, Machine, Net, Sending, put_at_two}
use Rattle.bip_forks.specs.Stations.{KeptStation, nothing_shared, side_with, with_side_to}
use Rattle.bip_forks.specs.declared.sending.Sent.{Sent}
use Rattle.bip_forks.specs.declared.shares.Side.{Side}

-- functions with another value
pub mapped_put : {A B : Type 0} (h : A → B) (f : ℕ → A) (s : ℕ) (x : A)
    → (λ i. h (put f s x i)) ≡ put (λ i. h (f i)) s (h x)
mapped_put h f s x = fun_ext (λ i. elim (eqb_tells i s)
    [ inl same ↦ rw same.0 refl | inr other ↦ rw other.0 refl ])

pub put_same : {A : Type 0} (f : ℕ → A) (s : ℕ) → put f s (f s) ≡ f
put_same f s = fun_ext (λ i. elim (eqb_tells i s)
    [ inl same ↦ rw (same.0, same.1) refl | inr other ↦ rw other.0 refl ])

pub pair_same : {A : Type 0} (f : ℕ → ℕ → A) (s t : ℕ) → put_at_two f s t (f s t) ≡ f
pair_same f s t = pair_put f s t (f s t) ∙ (ap (put f s) (put_same (f s) t) ∙ put_same f s)

-- another station in its place
pub at_set : (stations : List KeptStation) (s : ℕ) (x : KeptStation) → s < length stations
    → station_at (set stations s x) ≡ put (station_at stations) s x
at_set stations s x within = read-set stations s x no_station within

pub side_set : (st : KeptStation) (t : ℕ) (y : Side) → t < length st.sides
    → side_with (with_side_to st t y) ≡ put (side_with st) t y
side_set st t y within = read-set st.sides t y nothing_shared within

view_set : {B : Type 0} (h : KeptStation → B) (stations : List KeptStation) (s : ℕ)
    (x : KeptStation) → s < length stations → (λ i. h (station_at (set stations s x) i)) ≡ put
    (λ i. h (station_at stations i)) s (h x)
view_set h stations s x within = ap (λ (f : ℕ → KeptStation). λ i. h (f i))
    (at_set stations s x within) ∙ mapped_put h (station_at stations) s x

abbrev view_of : {B : Type 0} → (KeptStation → B) → List KeptStation → ℕ → B
view_of h stations i = h (station_at stations i)

view_kept : {B : Type 0} (h : KeptStation → B) (stations : List KeptStation) (s : ℕ)
    (x : KeptStation) → s < length stations → h x ≡ h (station_at stations s)
    → view_of h (set stations s x) ≡ view_of h stations
view_kept h stations s x within same = view_set h stations s x within
    ∙ (ap (put (view_of h stations) s) same ∙ put_same (view_of h stations) s)

-- stations decide for interactions of their own
abbrev pub AreApart : List KeptStation → Type 0
AreApart stations = (i j : ℕ) → i < length stations → j < length stations
    → (station_at stations i).inter.0 ≡ (station_at stations j).inter.0 → i ≡ j

apart_tail : (y : KeptStation) (ys : List KeptStation) → AreApart (y ∷ ys) → AreApart ys
apart_tail y ys apart i j one other same = let e : suc i ≡ suc j =
    apart (suc i) (suc j) (omega arith) (omega arith) same in omega arith

-- the open requests of a station's interaction are its own
pub waiting_at : (stations : List KeptStation) (s : ℕ) → s < length stations → AreApart stations
    → waiting_of stations (station_at stations s).inter.0 ≡ (station_at stations s).waiting
waiting_at [] s within apart = absurd (omega arith)
waiting_at (y ∷ ys) zero within apart = rw (eq-eqb y.inter.0 y.inter.0 refl) refl
waiting_at (y ∷ ys) (suc s) within apart = elim (eqb_tells y.inter.0 (station_at ys s).inter.0) [
  | inl same ↦ let e : zero ≡ suc s = apart zero (suc s) (omega arith) within same.1 in
      absurd (omega (arith, e))
  | inr other ↦ rw other.0 (waiting_at ys s (omega arith) (apart_tail y ys apart))
]

unequal : (a b : ℕ) → a ≢ b → eqb a b ≡ false
unequal a b apart = elim (eqb_tells a b) [ inl same ↦ absurd (apart same.1) | inr other ↦ other.0 ]

waiting_here : (stations : List KeptStation) (s : ℕ) (x : KeptStation) (a : ℕ) → s < length stations
    → x.inter.0 ≡ (station_at stations s).inter.0 → AreApart stations
    → waiting_of (set stations s x) a ≡ put (waiting_of stations)
    (station_at stations s).inter.0 x.waiting a
waiting_here [] s x a within same apart = absurd (omega arith)
waiting_here (y ∷ ys) zero x a within same apart = elim (eqb_tells a y.inter.0) [
  | inl is ↦ rw (is.0, eq-eqb x.inter.0 a (same ∙ sym is.1)) refl
  | inr other ↦ rw (
    other.0,
    unequal x.inter.0 a (λ e. other.1 (sym e ∙ same)),
    unequal y.inter.0 a (λ e. other.1 (sym e)),
  ) refl
]
waiting_here (y ∷ ys) (suc s) x a within same apart = elim (eqb_tells y.inter.0 a) [
  | inl is ↦ rw (is.0, unequal a (station_at ys s).inter.0 (λ e. no_other (is.1 ∙ e))) refl
  | inr other ↦ rw other.0 (waiting_here ys s x a (omega arith) same (apart_tail y ys apart))
]
  where
    no_other : y.inter.0 ≡ (station_at ys s).inter.0 → ⊥
    no_other e = let f : zero ≡ suc s = apart zero (suc s) (omega arith) within e in
        absurd (omega (arith, f))

pub waiting_set : (stations : List KeptStation) (s : ℕ) (x : KeptStation) → s < length stations
    → x.inter.0 ≡ (station_at stations s).inter.0 → AreApart stations
    → waiting_of (set stations s x) ≡ put (waiting_of stations)
    (station_at stations s).inter.0 x.waiting
waiting_set stations s x within same apart = fun_ext
    (λ a. waiting_here stations s x a within same apart)

-- machines with the same parts
abbrev machine_by : Net → (ℕ → ℕ → Option LyingFork) → (ℕ → ℕ → Bool) → List Sending → (ℕ → ℕ → ℕ)
    → (ℕ → ℕ) → List Grant → (ℕ → List Request) → Machine
machine_by n f t fl u k gs w = record {
  net = n;
  forks = f;
  tokens = t;
  flight = fl;
  used = u;
  serial = k;
  grants = gs;
  waiting = w;
}

abbrev net_by : KeptForks → ℕ → (ℕ → ℕ) → (ℕ → ℕ → Bool) → Net
net_by j n f g = record { plan = j.plan; base = j.base; count = n; inter = f; shares = g }

same_machine : (n n' : Net) (f f' : ℕ → ℕ → Option LyingFork) (t t' : ℕ → ℕ → Bool)
    (fl : List Sending) (u u' : ℕ → ℕ → ℕ) (k k' : ℕ → ℕ) (gs : List Grant)
    (w w' : ℕ → List Request)
    → n ≡ n' → f ≡ f' → t ≡ t' → u ≡ u' → k ≡ k' → w ≡ w'
    → machine_by n f t fl u k gs w ≡ machine_by n' f' t' fl u' k' gs w'
same_machine n n' f f' t t' fl u u' k k' gs w w' a b c d e g = rw (a, b, c, d, e, g) refl

-- forks with another station
abbrev pub with_parts : KeptForks → List KeptStation → List Sent → List Grant → KeptForks
with_parts k stations fl gs = record k {
  parts = record {
    stations = stations;
    flight = fl;
    grants = gs;
  };
}

-- the net stays where a station keeps its interaction, and with whom it shares forks
pub net_set : (k : KeptForks) (s : ℕ) (x : KeptStation) (fl : List Sent) (gs : List Grant)
    → s < length k.parts.stations → x.inter.0 ≡ (station_at k.parts.stations s).inter.0
    → ((t : ℕ) → (side_with x t).shared ≡ (side_at k.parts.stations s t).shared)
    → net_of (with_parts k (set k.parts.stations s x) fl gs) ≡ net_of k
net_set k s x fl gs within same shared =
    same_net k (length-set k.parts.stations s x)
    (view_kept (λ (st : KeptStation). st.inter.0) k.parts.stations s x within same)
    (view_kept (λ (st : KeptStation). λ t. (side_with st t).shared) k.parts.stations s x within
    (fun_ext shared))
  where
    same_net : (j : KeptForks) {n n' : ℕ} {f f' : ℕ → ℕ} {g g' : ℕ → ℕ → Bool} → n ≡ n' → f ≡ f'
        → g ≡ g' → net_by j n f g ≡ net_by j n' f' g'
    same_net j a b c = rw (a, b, c) refl

pub machine_set : (k : KeptForks) (s : ℕ) (x : KeptStation) (fl : List Sent) (gs : List Grant)
    → s < length k.parts.stations → x.inter.0 ≡ (station_at k.parts.stations s).inter.0
    → ((t : ℕ) → (side_with x t).shared ≡ (side_at k.parts.stations s t).shared)
    → AreApart k.parts.stations
    → machine_of (with_parts k (set k.parts.stations s x) fl gs)
    ≡ record (machine_of k) {
      forks = put (machine_of k).forks s (λ t. lying (side_with x t));
      tokens = put (machine_of k).tokens s (λ t. (side_with x t).asked);
      flight = map sending_of fl;
      used = put (machine_of k).used s (used_at x.table.rows);
      serial = put (machine_of k).serial s x.table.serial;
      grants = gs;
      waiting = put (machine_of k).waiting (station_at k.parts.stations s).inter.0 x.waiting;
    }
machine_set k s x fl gs within same shared apart =
    same_machine _ _ _ _ _ _ (map sending_of fl) _ _ _ _ gs _ _
    (net_set k s x fl gs within same shared)
    (view_set (λ (st : KeptStation). λ t. lying (side_with st t)) k.parts.stations s x within)
    (view_set (λ (st : KeptStation). λ t. (side_with st t).asked) k.parts.stations s x within)
    (view_set (λ (st : KeptStation). used_at st.table.rows) k.parts.stations s x within)
    (view_set (λ (st : KeptStation). st.table.serial) k.parts.stations s x within)
    (waiting_set k.parts.stations s x within same apart)

-- where a station shares something with another one, both have a place
pub in_place : (stations : List KeptStation) (s t : ℕ) (b : Side → Bool) → b nothing_shared ≡ false
    → b (side_at stations s t) ≡ true → (s < length stations)
    × (t < length (station_at stations s).sides)
in_place stations s t b none is = elim (cases_lt s (length stations)) [
  | inl one ↦ elim (cases_lt t (length (station_at stations s).sides)) [
    | inl other ↦ (one, other)
    | inr past ↦ absurd (false≢true (sym none
        ∙ (ap b (sym (get_or_past (station_at stations s).sides t nothing_shared past)) ∙ is)))
  ]
  | inr past ↦ absurd (false≢true (sym none ∙ (ap b
      (sym (ap (λ (st : KeptStation). side_with st t) (get_or_past stations s no_station past)))
      ∙ is)))
]

abbrev shared_with : KeptStation → ℕ → Bool
shared_with st j = (side_with st j).shared

-- something else of what a station shares
pub machine_side : (k : KeptForks) (s t : ℕ) (y : Side) (fl : List Sent)
    → s < length k.parts.stations → t < length (station_at k.parts.stations s).sides
    → y.shared ≡ (side_at k.parts.stations s t).shared → AreApart k.parts.stations
    → machine_of (with_parts k (set k.parts.stations s
    (with_side_to (station_at k.parts.stations s) t y)) fl k.parts.grants)
    ≡ record (machine_of k) {
      forks = put_at_two (machine_of k).forks s t (lying y);
      tokens = put_at_two (machine_of k).tokens s t y.asked;
      flight = map sending_of fl;
    }
machine_side k s t y fl within other shared apart =
    machine_set k s (with_side_to (station_at k.parts.stations s) t y) fl k.parts.grants within refl
    (λ j. ap (λ (f : ℕ → Bool). f j) keeps) apart
    ∙ same_machine _ _ _ _ _ _ (map sending_of fl) _ _ _ _ k.parts.grants _ _ refl
    (ap (put (machine_of k).forks s) (part lying)
    ∙ sym (pair_put (machine_of k).forks s t (lying y)))
    (ap (put (machine_of k).tokens s) (part (λ (side : Side). side.asked))
    ∙ sym (pair_put (machine_of k).tokens s t y.asked))
    (put_same (machine_of k).used s)
    (put_same (machine_of k).serial s)
    (ap (put (machine_of k).waiting (station_at k.parts.stations s).inter.0)
    (sym (waiting_at k.parts.stations s within apart))
    ∙ put_same (machine_of k).waiting (station_at k.parts.stations s).inter.0)
  where
    part : {B : Type 0} (h : Side → B) → (λ j. h
        (side_with (with_side_to (station_at k.parts.stations s) t y) j)) ≡ put
        (λ j. h (side_at k.parts.stations s j)) t (h y)
    part h = ap (λ (f : ℕ → Side). λ j. h (f j))
        (side_set (station_at k.parts.stations s) t y other)
        ∙ mapped_put h (side_with (station_at k.parts.stations s)) t y

    keeps : shared_with (with_side_to (station_at k.parts.stations s) t y) ≡ shared_with
        (station_at k.parts.stations s)
    keeps = part (λ (side : Side). side.shared)
        ∙ (ap (put (shared_with (station_at k.parts.stations s)) t) shared
        ∙ put_same (shared_with (station_at k.parts.stations s)) t)
