-- A station that served, seen as a machine's station: its rows are raised, and its forks are
-- written.
use Rattle.std.proofs.Common.{◌≡◌, ℕ, zero, suc, ◌<◌, true, eq-eqb, get_or, length, map, set, List}
use Rattle.std.proofs.Common.{[], ◌∷◌, Option, None, Some, refl, sym, ap, ◌∙◌, subst, inl, inr}
use Rattle.std.proofs.Common.{arith}
use Rattle.std.specs.Prelude.{Contains, IsSome}
use Rattle.std.specs.List.Sorted.{IsStrictlyIncreasing}
use Rattle.std.specs.Option.{option_map}
use Rattle.std.proofs.lemmas.Bool.Decides.{eqb_tells}
use Rattle.std.proofs.lemmas.List.Elements.{All-contains, All-get_or, Contains-append_cases}
use Rattle.std.proofs.lemmas.List.Elements.{Contains-append_left, Contains-append_right}
use Rattle.std.proofs.lemmas.List.Kept.{AllPairs-from_increasing}
use Rattle.std.proofs.Math.ListN.{get_or-map}
use Rattle.bip_model.proofs.ListLemmas.{Contains-cases, Contains-head, Contains-none, Contains-tail}
use Rattle.bip_model.proofs.NumberingLemmas.{increasing_tail}
use Rattle.std.proofs.Math.Path.{fun_ext}
use Rattle.bip_model.specs.Numbering.{put}
use Rattle.bip_table.specs.Rows.{has_row, row_components, used_at}
use Rattle.bip_table.specs.declared.rows.Row.{Row}
use Rattle.bip_model.specs.declared.messages.Request.{Request}
use Rattle.bip_table.specs.declared.reservations.Decision.{Decision}
use Rattle.bip_forks.proofs.RowLemmas.{raised_own, raised_reached, raised_rows}
use Rattle.bip_forks.proofs.ViewLemmas.{AreApart, in_place, machine_set, put_same, waiting_at}
use Rattle.bip_forks.proofs.ViewLemmas.{with_parts}
use Rattle.bip_forks.specs.Kept.{IsKeptForks, KeptForks, lying, machine_of, net_of, sending_of}
use Rattle.bip_forks.specs.Kept.{side_at, station_at}
use Rattle.bip_forks.specs.Machines.{AreRaised, AtBoth, HasAll, IsListed, IsServed, IsForkWritten}
use Rattle.bip_forks.specs.Machines.{LyingFork, Machine, Sending, grants_after, rows_after}
use Rattle.bip_forks.specs.Machines.{serial_after}
use Rattle.bip_forks.specs.Stations.{AllLie, IsServedHere, KeptStation, LiesHere, nothing_shared}
use Rattle.bip_forks.specs.Stations.{raised_here, renumbered, rewritten, rows_here, rows_in}
use Rattle.bip_forks.specs.Stations.{side_with}
use Rattle.bip_forks.specs.declared.sending.Sent.{Sent}
use Rattle.bip_forks.specs.declared.shares.Fork.{Fork}
use Rattle.bip_forks.specs.declared.shares.Side.{Side}

-- rows that are found
row_found : (rows : List Row) (c : ℕ) → has_row rows c ≡ true → (r : Row) × Contains rows r
    × (r.comp.0 ≡ c) × (used_at rows c ≡ r.used)
row_found [] c row = cc
row_found (x ∷ xs) c row = elim (eqb_tells x.comp.0 c) [
  | inl same ↦ (x, Contains-head x xs, same.1, rw same.0 refl)
  | inr other ↦
      let rest = row_found xs c (rw other.0 at row) in
      (rest.0, Contains-tail x rest.0 xs rest.1, rest.2, rw other.0 rest.3)
]

row_of : (rows : List Row) (r : Row) → Contains rows r → has_row rows r.comp.0 ≡ true
row_of [] r there = absurd (Contains-none r there)
row_of (x ∷ xs) r there = elim (eqb_tells x.comp.0 r.comp.0) [
  | inl same ↦ rw same.0 refl
  | inr other ↦ elim (Contains-cases x xs r there) [
    | inl is ↦ absurd (other.1 (ap (λ (y : Row). y.comp.0) is))
    | inr rest ↦ rw other.0 (row_of xs r rest)
  ]
]

pub contains_map : {X Y : Type 0} (f : X → Y) (xs : List X) (x : X) → Contains xs x
    → Contains (map f xs) (f x)
contains_map f [] x there = absurd (Contains-none x there)
contains_map f (y ∷ ys) x there = elim (Contains-cases y ys x there) [
  | inl is ↦ rw (← is) (Contains-head (f y) (map f ys))
  | inr rest ↦ Contains-tail (f y) (f x) (map f ys) (contains_map f ys x rest)
]

-- with one row of each component, a row has the number that the rows give
number_of : (rows : List Row) (r : Row) → IsStrictlyIncreasing (row_components rows)
    → Contains rows r → used_at rows r.comp.0 ≡ r.used
number_of [] r rising there = absurd (Contains-none r there)
number_of (x ∷ xs) r rising there = elim (Contains-cases x xs r there) [
  | inl is ↦ rw (← is, eq-eqb x.comp.0 x.comp.0 refl) refl
  | inr rest ↦ elim (eqb_tells x.comp.0 r.comp.0) [
    | inl same ↦ absurd (later same.1 rest)
    | inr other ↦ rw other.0 (number_of xs r (increasing_tail x.comp.0 (row_components xs) rising)
        rest)
  ]
]
  where
    later : x.comp.0 ≡ r.comp.0 → Contains xs r → ⊥
    later same rest =
        let above = All-contains (λ (k : ℕ). x.comp.0 < k) (row_components xs) r.comp.0
        (λ k d below. AllPairs-from_increasing (row_components (x ∷ xs)) rising 0 (suc k) d
        (omega arith) (omega arith)) (contains_map (λ (y : Row). y.comp.0) xs r rest) in
        omega (arith, above, same)

-- rows of forks that lie here
rows_here_has : (sides : List Side) (t : ℕ) (f : Fork) (r : Row)
    → (get_or sides t nothing_shared).fork ≡ Some f → Contains f.rows r
    → Contains (rows_here sides) r
rows_here_has [] t f r is there = cc
rows_here_has (x ∷ xs) zero f r is there = Contains-append_left (rows_in x.fork) (rows_here xs) r
    (subst (λ (o : Option Fork). Contains (rows_in o) r) (sym is) there)
rows_here_has (x ∷ xs) (suc t) f r is there =
    Contains-append_right (rows_in x.fork) (rows_here xs) r (rows_here_has xs t f r is there)

rows_of_fork : (o : Option Fork) (r : Row) → Contains (rows_in o) r → (f : Fork) × (o ≡ Some f)
    × Contains f.rows r
rows_of_fork None r there = absurd (Contains-none r there)
rows_of_fork (Some f) r there = (f, refl, there)

rows_here_of : (sides : List Side) (r : Row) → Contains (rows_here sides) r → (t : ℕ) × (f : Fork)
    × ((get_or sides t nothing_shared).fork ≡ Some f) × Contains f.rows r
rows_here_of [] r there = absurd (Contains-none r there)
rows_here_of (x ∷ xs) r there = elim (Contains-append_cases (rows_in x.fork) (rows_here xs) r there) [
  | inl first ↦ let at = rows_of_fork x.fork r first in (zero, at.0, at.1, at.2)
  | inr rest ↦ let at = rows_here_of xs r rest in (suc at.0, at.1, at.2, at.3)
]

-- a fork that lies somewhere, as the machine has it
pub lies : (side : Side) (g : LyingFork) → lying side ≡ Some g → (f : Fork) × (side.fork ≡ Some f)
    × (g ≡ record { clean = side.clean; numbers = used_at f.rows })
lies side g is = by_fork side.fork refl is
  where
    by_fork : (o : Option Fork) → side.fork ≡ o
        → option_map (λ (f : Fork). record { clean = side.clean; numbers = used_at f.rows }) o
        ≡ Some g → (f : Fork) × (side.fork ≡ Some f)
        × (g ≡ record { clean = side.clean; numbers = used_at f.rows })
    by_fork None was is' = cc
    by_fork (Some f) was is' = let same : record { clean = side.clean; numbers = used_at f.rows }
        ≡ g = some_same is' in (f, was, sym same)
      where
        some_same : {a b : LyingFork} → Some a ≡ Some b → a ≡ b
        some_same e = cc

pub lying_of : (side : Side) (f : Fork) → side.fork ≡ Some f
    → lying side ≡ Some (record { clean = side.clean; numbers = used_at f.rows })
lying_of side f is = ap (option_map (λ (g : Fork).
    record { clean = side.clean; numbers = used_at g.rows })) is

-- the raised rows of a station
raised_of : (k : KeptForks) (s : ℕ) → IsKeptForks k → s < length k.parts.stations
    → AreRaised (net_of k) (machine_of k).forks ((machine_of k).used s) s
    (raised_here (station_at k.parts.stations s).table (station_at k.parts.stations s).sides)
raised_of k s is within = record {
  own = λ c at. raised_own (rows_here st.sides) (has_row st.table.rows) (used_at st.table.rows) c;
  shared = λ t c g share here both.
      let f = lies (side_at k.parts.stations s t) g here in
      let r = row_found f.0.rows c (((is.forks s t f.0 f.1).rows c).1 both) in
      let row : has_row st.table.rows r.0.comp.0 ≡ true =
      rw r.2 ((is.rows s c within).1 both.one) in
      let above = raised_rows (rows_here st.sides) (has_row st.table.rows)
      (used_at st.table.rows) r.0 (rows_here_has st.sides t f.0 r.0 f.1 r.1) row in
      omega (
        arith,
        above,
        r.3,
        ap (λ (x : LyingFork). x.numbers c) f.2,
        ap (raised_here st.table st.sides) r.2,
      );
  reached = λ c at. elim (raised_reached (rows_here st.sides) (has_row st.table.rows)
      (used_at st.table.rows) c) [
        | inl same ↦ inl same
        | inr by ↦
            let f = rows_here_of st.sides by.0 by.1 in
            let of = is.forks s f.0 f.1 f.2 in
            let both : AtBoth (net_of k) s f.0 c =
            (of.rows c).0 (rw (← by.2) (row_of f.1.rows by.0 f.3)) in
            inr (
              f.0,
              record { clean = (side_at k.parts.stations s f.0).clean; numbers = used_at f.1.rows },
              is.machine.shared s f.0 _ (lying_of (side_at k.parts.stations s f.0) f.1 f.2),
              lying_of (side_at k.parts.stations s f.0) f.1 f.2,
              both,
              by.3 ∙ (sym (number_of f.1.rows by.0 of.rising f.3) ∙ ap (used_at f.1.rows) by.2),
            )
      ];
}
  where
    st : KeptStation
    st = station_at k.parts.stations s

-- the forks of a station that has them all
pub has_all_forks : (k : KeptForks) (s : ℕ) → IsKeptForks k
    → AllLie (station_at k.parts.stations s).sides → HasAll (net_of k) (machine_of k).forks s
has_all_forks k s is all = λ t share.
    let shared : (side_at k.parts.stations s t).shared ≡ true =
    (is.machine.net.share s t).1 share in
    let places = in_place k.parts.stations s t (λ (side : Side). side.shared) refl shared in
    here' (side_at k.parts.stations s t) ((All-get_or LiesHere
    (station_at k.parts.stations s).sides t nothing_shared places.1 all) shared)
  where
    here' : (side : Side) → IsSome side.fork → (g : LyingFork) × (lying side ≡ Some g)
    here' side some = by_fork side.fork refl some
      where
        by_fork : (o : Option Fork) → side.fork ≡ o → IsSome o → (g : LyingFork)
            × (lying side ≡ Some g)
        by_fork None was some' = cc
        by_fork (Some f) was some' = (
          record { clean = side.clean; numbers = used_at f.rows },
          lying_of side f was,
        )

-- numbers that are written
written_number : (rows fork : List Row) (c : ℕ) → has_row fork c ≡ true
    → used_at (map (renumbered rows) fork) c ≡ used_at rows c
written_number rows [] c row = cc
written_number rows (x ∷ xs) c row = elim (eqb_tells x.comp.0 c) [
  | inl same ↦ rw (same.0, same.1) refl
  | inr other ↦ rw other.0 (written_number rows xs c (rw other.0 at row))
]

pub written_rows : (rows fork : List Row) → row_components (map (renumbered rows) fork)
    ≡ row_components fork
written_rows rows [] = refl
written_rows rows (x ∷ xs) = ap (λ (cs : List ℕ). x.comp.0 ∷ cs) (written_rows rows xs)

pub rewritten_at : (rows : List Row) (sides : List Side) (t : ℕ)
    → get_or (map (rewritten rows) sides) t nothing_shared ≡ rewritten rows
    (get_or sides t nothing_shared)
rewritten_at rows sides t = get_or-map (rewritten rows) sides t nothing_shared

-- what was written into a fork
written_side : (k : KeptForks) (s t : ℕ) (rows : List Row) (numbers : ℕ → ℕ) → IsKeptForks k
    → used_at rows ≡ numbers → IsForkWritten (net_of k) s t numbers
    (lying (side_at k.parts.stations s t)) (lying (rewritten rows (side_at k.parts.stations s t)))
written_side k s t rows numbers is same = by_fork (side_at k.parts.stations s t).fork refl
  where
    by_fork : (o : Option Fork) → (side_at k.parts.stations s t).fork ≡ o
        → IsForkWritten (net_of k) s t numbers (lying (side_at k.parts.stations s t))
        (lying (rewritten rows (side_at k.parts.stations s t)))
    by_fork None was = rw was tt
    by_fork (Some f) was = rw was (
      refl,
      λ c both. written_number rows f.rows c (((is.forks s t f
          was).rows c).1 both) ∙ ap (λ (u : ℕ → ℕ). u c) same,
    )

-- a station that served is one of the machine that did
pub is_served : (k : KeptForks) (s : ℕ) (q : Request) (d : Decision) (x : KeptStation)
    (fl : List Sent) → IsKeptForks k → s < length k.parts.stations → AreApart k.parts.stations
    → IsServedHere (station_at k.parts.stations s) q d x → IsListed k.parts.grants d
    → fl ≡ k.parts.flight
    → IsServed (machine_of k) s q d (machine_of
    (with_parts k (set k.parts.stations s x) fl (grants_after k.parts.grants q d)))
is_served k s q d x fl is within apart here listed flight' = record {
  station = within;
  complete = has_all_forks k s is here.complete;
  rest = x.waiting;
  oldest = waiting_at k.parts.stations s within apart ∙ here.oldest;
  rows = rows;
  raised = raised_of k s is within;
  decision = here.answer.decision;
  serial = here.answer.serial;
  listed = listed;
  forks = λ t. lying (side_with x t);
  written = λ t. subst (λ (side : Side). IsForkWritten (net_of k) s t (rows_after rows q d)
      (lying (side_at k.parts.stations s t)) (lying side)) (sym (sides t))
      (written_side k s t x.table.rows (rows_after rows q d) is here.answer.rows);
  after = machine_set k s x fl (grants_after k.parts.grants q d) within
      (ap (λ (y : KeptStation). y.inter.0) here.after)
      (λ t. ap (λ (side : Side). side.shared) (sides t)) apart
      ∙ with_numbers (map sending_of fl) (map sending_of k.parts.flight) (used_at x.table.rows)
      (rows_after rows q d) x.table.serial
      (serial_after (station_at k.parts.stations s).table.serial d)
      (ap (map sending_of) flight') here.answer.rows here.answer.next;
}
  where
    rows : ℕ → ℕ
    rows = raised_here (station_at k.parts.stations s).table (station_at k.parts.stations s).sides

    sides : (t : ℕ) → side_with x t ≡ rewritten x.table.rows (side_at k.parts.stations s t)
    sides t = ap (λ (y : KeptStation). side_with y t) here.after
        ∙ rewritten_at x.table.rows (station_at k.parts.stations s).sides t

    later : List Sending → (ℕ → ℕ) → ℕ → Machine
    later f u n = record (machine_of k) {
      forks = put (machine_of k).forks s (λ t. lying (side_with x t));
      tokens = put (machine_of k).tokens s (λ t. (side_with x t).asked);
      flight = f;
      used = put (machine_of k).used s u;
      serial = put (machine_of k).serial s n;
      grants = grants_after k.parts.grants q d;
      waiting = put (machine_of k).waiting (station_at k.parts.stations s).inter.0 x.waiting;
    }

    with_numbers : (f g : List Sending) (u v : ℕ → ℕ) (m n : ℕ) → f ≡ g → u ≡ v → m ≡ n
        → later f u m ≡ record (later g v n) { tokens = (machine_of k).tokens }
    with_numbers f g u v m n a b c = rw (a, b, c, tokens) refl
      where
        tokens : put (machine_of k).tokens s (λ t. (side_with x t).asked) ≡ (machine_of k).tokens
        tokens = ap (put (machine_of k).tokens s)
            (fun_ext (λ t. ap (λ (side : Side). side.asked) (sides t)))
            ∙ put_same (machine_of k).tokens s
