-- New forks: their machine is new, and so is their content.
use Rattle.std.proofs.Common.{◌≡◌, ℕ, ◌<◌, Bool, true, false, cond, get_or, length, map, List, []}
use Rattle.std.proofs.Common.{◌∷◌, Option, None, Some, slice_get, refl, sym, ap, ◌∙◌, subst, inl}
use Rattle.std.proofs.Common.{inr, arith, zero, suc}
use Rattle.std.specs.Prelude.{◌↔◌, Contains, IsTrue}
use Rattle.std.specs.List.{range_with_len}
use Rattle.std.specs.Option.{option_map}
use Rattle.std.proofs.lemmas.Bool.{cases_lt, cases_order, false≢true}
use Rattle.std.proofs.lemmas.Bool.Decides.{eqb_tells}
use Rattle.std.proofs.lemmas.List.{get_or-map, get_or_past}
use Rattle.std.proofs.lemmas.List.FromFn.{fill_by_all, length-map-range_with_len}
use Rattle.std.proofs.lemmas.Option.{get_or_from_slice_get, slice_get-get_or, slice_get_within}
use Rattle.std.proofs.lemmas.List.{length-map}
use Rattle.std.proofs.Math.Path.{fun_ext}
use Rattle.bip_model.proofs.ListLemmas.{below_later, Contains-none}
use Rattle.bip_model.specs.Parts.{IsSystem}
use Rattle.bip_model.specs.Priorities.{inter}
use Rattle.bip_model.specs.declared.messages.Request.{Request}
use Rattle.bip_model.specs.declared.numbering.InterId.{InterId}
use Rattle.bip_partition.specs.Plans.{AreStations, Planned, Touches}
use Rattle.bip_table.specs.Rows.{has_row, used_at}
use Rattle.bip_bank.specs.Banks.{BankContent, content_of}
use Rattle.bip_bank.specs.ForkSharing.{ForkSide, ForkState, away, clean, dirty, side_of}
use Rattle.bip_bank.specs.Sharing.{forks}
use Rattle.bip_forks.proofs.ActLemmas.{content_is}
use Rattle.bip_bank.proofs.CentralLemmas.{listed_row, stations_same}
use Rattle.bip_bank.proofs.UsedLemmas.{used_first}
use Rattle.bip_forks.proofs.ServedLemmas.{lies, lying_of}
use Rattle.bip_forks.proofs.SharingLemmas.{table_at, table_row}
use Rattle.bip_forks.proofs.StepLemmas.{begins}
use Rattle.bip_forks.proofs.ViewLemmas.{in_place}
use Rattle.bip_forks.specs.Kept.{IsKeptForks, KeptForks, kept_forks, lying, machine_of, net_of}
use Rattle.bip_forks.specs.Kept.{no_station, side_at, station_at, waiting_of}
use Rattle.bip_forks.specs.Laws.{AreNew, sharing_of, side_between, fork_state}
use Rattle.bip_forks.specs.Machines.{IsNet, LyingFork, Machine, ShareFork}
use Rattle.bip_forks.specs.Opening.{AreFirstStations, IsCommon, IsFirstShare, IsFirstSide}
use Rattle.bip_forks.specs.Opening.{IsFirstStation, IsNewForks}
use Rattle.bip_forks.specs.Stations.{KeptStation, pair_of_stations}
use Rattle.bip_forks.specs.declared.shares.Fork.{Fork}
use Rattle.bip_forks.specs.declared.shares.Side.{Side}

none_open : (stations : List KeptStation) (a : ℕ)
    → ((s : ℕ) → s < length stations → (station_at stations s).waiting ≡ [])
    → waiting_of stations a ≡ []
none_open [] a none = refl
none_open (x ∷ xs) a none = elim (eqb_tells x.inter.0 a) [
  | inl same ↦ rw same.0 (none zero (omega arith))
  | inr other ↦ rw other.0 (none_open xs a (λ s within. none (suc s) (omega (arith, within))))
]

abbrev new_forks : Planned → ℕ → List KeptStation → KeptForks
new_forks p base stations = record {
  plan = p;
  base = base;
  parts = record { stations = stations; flight = []; grants = [] };
}

-- what is known of new stations
pub record AreBegun (p : Planned) (base : ℕ) (inters : List InterId)
    (stations : List KeptStation) : Type 0 where
  pub valid : IsSystem p.model
  pub listed : AreStations p inters
  pub first : AreFirstStations p base inters (length inters) stations

-- the interaction of a station, and the station at first
inter_at : (p : Planned) (base : ℕ) (inters : List InterId) (stations : List KeptStation)
    → AreBegun p base inters stations → (s : ℕ) → s < length stations
    → (a : InterId) × (slice_get inters s ≡ Some a)
    × IsFirstStation p base inters s a (station_at stations s)
inter_at p base inters stations are s within =
    let known : s < length inters = omega (arith, within, are.first.each) in
    let here = slice_get-get_or inters s (inter 0) known in
    (get_or inters s (inter 0), here, are.first.first s (get_or inters s (inter 0)) known here)

inter_is : (p : Planned) (base : ℕ) (inters : List InterId) (stations : List KeptStation)
    → AreBegun p base inters stations → (s : ℕ) → s < length stations
    → slice_get inters s ≡ Some (inter (station_at stations s).inter.0)
inter_is p base inters stations are s within = let at =
    inter_at p base inters stations are s within in at.1
    ∙ ap (λ (a : InterId). Some a) (sym at.2.inter)

-- what two stations share at first
side_first : (p : Planned) (base : ℕ) (inters : List InterId) (stations : List KeptStation)
    → AreBegun p base inters stations → (s t : ℕ) → s < length stations → t < length stations
    → IsFirstSide p base s (station_at stations s).inter.0 t (station_at stations t).inter.0
    (side_at stations s t)
side_first p base inters stations are s t one other =
    let at = inter_at p base inters stations are s one in
    let to = inter_is p base inters stations are t other in
    let is : IsFirstSide p base s at.0.0 t (station_at stations t).inter.0 (side_at stations s t) =
    at.2.sides.first t (inter (station_at stations t).inter.0)
    (omega (arith, other, are.first.each)) to in
    subst (λ (a : InterId). IsFirstSide p base s a.0 t (station_at stations t).inter.0
    (side_at stations s t)) (sym at.2.inter) is

-- their net
apart_in : (p : Planned) (inters : List InterId) (s t : ℕ) (a : InterId) → AreStations p inters
    → slice_get inters s ≡ Some a → slice_get inters t ≡ Some a → s ≡ t
apart_in p inters s t a listed one other = elim (cases_order s t) [
  | inl same ↦ same
  | inr apart ↦ elim apart [
    | inl below ↦ absurd (omega (
      arith,
      below_later (λ (b : InterId).
          b.0) inters listed.rising s t a below (slice_get_within inters t a other),
      ap (λ (b : InterId). b.0) (get_or_from_slice_get inters s a a one),
      ap (λ (b : InterId). b.0) (get_or_from_slice_get inters t a a other),
    ))
    | inr above ↦ absurd (omega (
      arith,
      below_later (λ (b : InterId).
          b.0) inters listed.rising t s a above (slice_get_within inters s a one),
      ap (λ (b : InterId). b.0) (get_or_from_slice_get inters s a a one),
      ap (λ (b : InterId). b.0) (get_or_from_slice_get inters t a a other),
    ))
  ]
]

some_inter : {a b : InterId} → Some a ≡ Some b → a ≡ b
some_inter e = cc

net_first : (p : Planned) (base : ℕ) (inters : List InterId) (stations : List KeptStation)
    → AreBegun p base inters stations → IsNet (net_of (new_forks p base stations))
net_first p base inters stations are = record {
  station = λ s within. record {
    stations = inters;
    listed = are.listed;
    here = inter_is p base inters stations are s within;
  };
  known = λ s a of.
      let here : slice_get inters s ≡ Some (inter a) =
      subst (λ (xs : List InterId). slice_get xs s ≡ Some (inter a))
      (stations_same p of.stations inters of.listed are.listed) of.here in
      let within : s < length stations = omega (
        arith,
        slice_get_within inters s (inter a) here,
        are.first.each,
      ) in (
        within,
        ap (λ (b : InterId). b.0) (some_inter
            (sym (inter_is p base inters stations are s within) ∙ here)),
      );
  apart = λ s t one other same. apart_in p inters s t
      (inter (station_at stations s).inter.0) are.listed (inter_is p base inters stations are s one)
      (inter_is p base inters stations are t other ∙ ap (λ (n : ℕ). Some (inter n)) (sym same));
  each = λ a reserved.
      let at = (are.listed.exact a).1 reserved in
      let here : slice_get inters at.0 ≡ Some (inter a) =
      slice_get-get_or inters at.0 (inter a) at.1 ∙ ap (λ (b : InterId). Some b) at.2 in
      let within : at.0 < length stations = omega (arith, at.1, are.first.each) in (
        at.0,
        within,
        ap (λ (b : InterId). b.0) (some_inter
            (sym (inter_is p base inters stations are at.0 within) ∙ here)),
      );
  share = λ s t. (
    λ shared.
        let places = in_place stations s t (λ (side : Side). side.shared) refl shared in
        let at = inter_at p base inters stations are s places.0 in
        let other : t < length stations = omega (
          arith,
          places.1,
          at.2.sides.each,
          are.first.each,
        ) in
        let of = (side_first p base inters stations are s t places.0 other).shared.0 shared in
        record { one = places.0; other = other; apart = of.0; conflict = of.1 },
    λ share. (side_first p base inters stations are s t share.one share.other).shared.1
        (share.apart, share.conflict),
  );
}

-- a fork at first
fork_first : (p : Planned) (base s a t b : ℕ) (side : Side) (f : Fork)
    → IsFirstSide p base s a t b side → side.fork ≡ Some f
    → IsTrue side.shared × (s < t) × (f.pair ≡ pair_of_stations (record { 0 = s })
    (record { 0 = t })) × IsCommon (λ c. Touches p.model a c × Touches p.model b c) base f.rows
fork_first p base s a t b side f is here = by_test side.shared refl
  where
    some_fork : {x y : Fork} → Some x ≡ Some y → x ≡ y
    some_fork e = cc

    none_some : {A : Type 0} → None ≡ Some f → A
    none_some e = cc

    by_test : (v : Bool) → side.shared ≡ v → IsTrue side.shared × (s < t)
        × (f.pair ≡ pair_of_stations (record { 0 = s }) (record { 0 = t }))
        × IsCommon (λ c. Touches p.model a c × Touches p.model b c) base f.rows
    by_test true shared = elim (cases_lt s t) [
      | inl lower ↦
          let at = is.fork shared lower in
          let same : at.0 ≡ f = some_fork (sym at.1 ∙ here) in (
            shared,
            lower,
            ap (λ (g : Fork). g.pair) (sym same) ∙ at.2,
            subst (λ (g : Fork). IsCommon (λ c. Touches p.model a c × Touches p.model b c) base
                g.rows) same at.3,
          )
      | inr not ↦ none_some (sym (is.away (λ both. omega (arith, not, both.1))) ∙ here)
    ]
    by_test false none = none_some (sym (is.away (λ both. false≢true (sym none ∙ both.0))) ∙ here)

abbrev has_fork : Option Fork → Bool
has_fork None = false
has_fork (Some g) = true

-- the stations of a fork that lies somewhere
lies_first : (p : Planned) (base : ℕ) (inters : List InterId) (stations : List KeptStation)
    → AreBegun p base inters stations → (s t : ℕ) (f : Fork) → (side_at stations s t).fork ≡ Some f
    → (s < length stations) × (t < length stations)
lies_first p base inters stations are s t f here =
    let places = in_place stations s t (λ (side : Side). has_fork side.fork) refl
    (ap has_fork here) in
    let at = inter_at p base inters stations are s places.0 in
    (places.0, omega (arith, places.1, at.2.sides.each, are.first.each))

station_rows : (p : Planned) (base : ℕ) (inters : List InterId) (stations : List KeptStation)
    → AreBegun p base inters stations → (s c : ℕ) → s < length stations
    → (IsTrue (has_row (station_at stations s).table.rows c) ↔ Touches p.model
    (station_at stations s).inter.0 c) × (IsTrue (has_row (station_at stations s).table.rows c)
    → used_at (station_at stations s).table.rows c ≡ base)
station_rows p base inters stations are s c within =
    let at = inter_at p base inters stations are s within in
    let rows = at.2.rows in
    let touched : Contains at.2.list (record { 0 = c }) ↔ Touches p.model
    (station_at stations s).inter.0 c = subst (λ (a : InterId). Contains at.2.list
    (record { 0 = c }) ↔ Touches p.model a.0 c) (sym at.2.inter) (at.2.touched.exact c) in (
      (
        λ row. touched.0 ((listed_row base at.2.list c).0
            (ap (λ rs. has_row rs c) (sym rows) ∙ row)),
        λ has. ap (λ rs. has_row rs c) rows
            ∙ (listed_row base at.2.list c).1 (touched.1 has),
      ),
      λ row. ap (λ rs. used_at rs c) rows ∙ used_first base at.2.list c
          (ap (λ rs. has_row rs c) (sym rows) ∙ row),
    )

asked_first : (p : Planned) (base : ℕ) (inters : List InterId) (stations : List KeptStation)
    → AreBegun p base inters stations → (s t : ℕ)
    → ((side_at stations s t).asked ≡ true) ↔
    (ShareFork (net_of (new_forks p base stations)) s t × (t < s))
asked_first p base inters stations are s t = (
  λ asked.
      let places = in_place stations s t (λ (side : Side). side.asked) refl asked in
      let at = inter_at p base inters stations are s places.0 in
      let other : t < length stations = omega (arith, places.1, at.2.sides.each, are.first.each) in
      let of = (side_first p base inters stations are s t places.0 other).asked.0 asked in
      (((net_first p base inters stations are).share s t).0 of.0, of.1),
  λ both. (side_first p base inters stations are s t both.0.one both.0.other).asked.1
      (((net_first p base inters stations are).share s t).1 both.0, both.1),
)

-- what their machine is at first
new_machine : (p : Planned) (base : ℕ) (inters : List InterId) (stations : List KeptStation)
    → AreBegun p base inters stations → AreNew (machine_of (new_forks p base stations))
new_machine p base inters stations are = record {
  net = net_first p base inters stations are;
  given = λ s t share lower.
      let side = side_first p base inters stations are s t share.one share.other in
      let f = side.fork (((net_first p base inters stations are).share s t).1 share) lower in (
        record { clean = (side_at stations s t).clean; numbers = used_at f.0.rows },
        lying_of (side_at stations s t) f.0 f.1,
      );
  first = λ s t g here.
      let f = lies (side_at stations s t) g here in
      let places = lies_first p base inters stations are s t f.0 f.1 in
      let side = side_first p base inters stations are s t places.0 places.1 in
      let of = fork_first p base s (station_at stations s).inter.0 t (station_at stations t).inter.0
      (side_at stations s t) f.0 side f.1 in
      record {
        share = ((net_first p base inters stations are).share s t).0 of.0;
        lower = of.1;
        dirty = ap (λ (x : LyingFork). x.clean) f.2 ∙ side.clean;
        numbers = λ c both. ap (λ (x : LyingFork). x.numbers c) f.2
            ∙ of.3.numbers c ((of.3.tabled c).1 (both.one, both.other));
      };
  tokens = asked_first p base inters stations are;
  flight = refl;
  used = λ s c within at. let rows = station_rows p base inters stations are s c within in
      rows.1 (rows.0.1 at);
  serials = λ s. elim (cases_lt s (length stations)) [
    | inl within ↦ (inter_at p base inters stations are s within).2.serial
    | inr past ↦ ap (λ (st : KeptStation). st.table.serial) (get_or_past stations s no_station past)
  ];
  grants = refl;
  waiting = fun_ext (λ a. none_open stations a
      (λ s within. (inter_at p base inters stations are s within).2.waiting));
}

same_inters : (p : Planned) (base : ℕ) (inters : List InterId) (stations : List KeptStation)
    → AreBegun p base inters stations → map (λ (s : KeptStation). s.inter) stations ≡ inters
same_inters p base inters stations are =
    fill_by_all (λ i. get_or inters i (inter 0)) (map (λ (s : KeptStation). s.inter) stations)
    (length inters) (inter 0) (length-map stations (λ (s : KeptStation). s.inter)
    ∙ are.first.each) each
    ∙ sym (fill_by_all (λ i. get_or inters i (inter 0)) inters (length inters) (inter 0) refl
    (λ i within. refl))
  where
    each : (i : ℕ) → i < length inters → get_or (map (λ (s : KeptStation). s.inter) stations) i
        (inter 0) ≡ get_or inters i (inter 0)
    each i known =
        let within : i < length stations = omega (arith, known, are.first.each) in
        let at = inter_at p base inters stations are i within in
        get_or-map (λ (s : KeptStation). s.inter) stations i no_station (inter 0) within
        ∙ (at.2.inter ∙ sym (get_or_from_slice_get inters i at.0 (inter 0) at.1))

-- new forks are kept as any are
pub new_kept : (p : Planned) (base : ℕ) (inters : List InterId) (stations : List KeptStation)
    → AreBegun p base inters stations → IsKeptForks (new_forks p base stations)
new_kept p base inters stations are = record {
  valid = are.valid;
  listed = subst (AreStations p) (sym (same_inters p base inters stations are)) are.listed;
  numbered = λ s within. (inter_at p base inters stations are s within).2.number;
  rows = λ s c within. (station_rows p base inters stations are s c within).0;
  forks = λ s t f here.
      let places = lies_first p base inters stations are s t f here in
      let of = fork_first p base s (station_at stations s).inter.0 t (station_at stations t).inter.0
      (side_at stations s t) f (side_first p base inters stations are s t places.0 places.1)
      here in
      record {
        pair = of.2;
        rising = of.3.rising;
        rows = λ c. (
          λ row. let both = (of.3.tabled c).0 row in record {
            one = both.0;
            other = both.1;
          },
          λ both. (of.3.tabled c).1 (both.one, both.other),
        );
      };
  sent = λ x there. absurd (Contains-none x there);
  machine = begins (machine_of (new_forks p base stations))
      (new_machine p base inters stations are);
}

-- what they share at first
shared_first : (p : Planned) (base : ℕ) (inters : List InterId) (stations : List KeptStation)
    → AreBegun p base inters stations → (s t : ℕ) → s < length stations → t < length stations
    → IsFirstShare p s (station_at stations s).inter.0 t (station_at stations t).inter.0
    (side_of (sharing_of (machine_of (new_forks p base stations))).sides s t)
shared_first p base inters stations are s t one other =
    subst (IsFirstShare p s (station_at stations s).inter.0 t (station_at stations t).inter.0)
    (sym (table_at (side_between m.net.shares m.forks m.tokens) m.net.count s t one other))
    (by_test (side_at stations s t).shared refl)
  where
    m : Machine
    m = machine_of (new_forks p base stations)

    is : IsFirstSide p base s (station_at stations s).inter.0 t (station_at stations t).inter.0
        (side_at stations s t)
    is = side_first p base inters stations are s t one other

    token_is : (b c : Bool) → (IsTrue b ↔ IsTrue c) → b ≡ c
    token_is true true same = refl
    token_is true false same = sym (same.0 refl)
    token_is false true same = same.1 refl
    token_is false false same = refl

    by_test : (v : Bool) → (side_at stations s t).shared ≡ v
        → IsFirstShare p s (station_at stations s).inter.0 t (station_at stations t).inter.0
        (cond v (Some (record {
          fork = fork_state (lying (side_at stations s t));
          token = (side_at stations s t).asked;
        })) None)
    by_test true shared = record {
      none = λ not. absurd (not (is.shared.0 shared));
      lower = λ of below.
          let f = is.fork shared below in
          let state : fork_state (lying (side_at stations s t)) ≡ dirty =
          ap fork_state (lying_of (side_at stations s t) f.0 f.1)
          ∙ ap {B = ForkState} (λ (b : Bool). cond b clean dirty) is.clean in
          ap {B = Option ForkSide} (λ (x : ForkState).
          Some (record { fork = x; token = (side_at stations s t).asked })) state
          ∙ ap {B = Option ForkSide} (λ (b : Bool). Some (record { fork = dirty; token = b }))
          (token_is (side_at stations s t).asked false (
            λ asked. absurd (omega (arith, below, (is.asked.0 asked).1)),
            λ e. absurd (false≢true e),
          ));
      higher = λ of above.
          let none : (side_at stations s t).fork ≡ None =
          is.away (λ both. omega (arith, above, both.1)) in
          ap {B = Option ForkSide} (λ (x : Option Fork).
          Some (record {
            fork = fork_state (option_map
                (λ (f : Fork). record {
                  clean = (side_at stations s t).clean;
                  numbers = used_at f.rows;
                }) x);
            token = (side_at stations s t).asked;
          })) none
          ∙ ap {B = Option ForkSide} (λ (b : Bool). Some (record { fork = away; token = b }))
          (token_is (side_at stations s t).asked true
          (λ asked. refl, λ e. is.asked.1 (shared, above)));
    }
    by_test false none = record {
      none = λ not. refl;
      lower = λ of below. absurd (false≢true (sym none ∙ is.shared.1 of));
      higher = λ of above. absurd (false≢true (sym none ∙ is.shared.1 of));
    }

abbrev content_open : KeptForks → (ℕ → List Request) → BankContent
content_open j w = record {
  plan = j.plan;
  base = j.base;
  used = λ c. j.base;
  grants = [];
  waiting = w;
  sharing = forks (sharing_of (machine_of j));
}

abbrev first_sides : Planned → ℕ → List KeptStation → ℕ → ℕ → Option ForkSide
first_sides p base stations = side_between (machine_of (new_forks p base stations)).net.shares
    (machine_of (new_forks p base stations)).forks (machine_of (new_forks p base stations)).tokens

pub new_content : (p : Planned) (base : ℕ) (inters : List InterId) (stations : List KeptStation)
    → AreBegun p base inters stations → IsNewForks p base
    (content_of (kept_forks (new_forks p base stations)))
new_content p base inters stations are = record {
  first = record {
    stations = inters;
    listed = are.listed;
    sharing = sharing_of (machine_of (new_forks p base stations));
    is = refl;
    each = length-map-range_with_len (λ s. map (first_sides p base stations s)
        (range_with_len 0 (length stations))) 0 (length stations) ∙ are.first.each;
    with_each = λ s within. ap length (table_row (first_sides p base stations) (length stations) s
        (omega (arith, within, are.first.each)))
        ∙ (length-map-range_with_len (first_sides p base stations s) 0 (length stations)
        ∙ are.first.each);
    sides = λ s t a c one other.
        let first : s < length stations = omega (
          arith,
          slice_get_within inters s a one,
          are.first.each,
        ) in
        let second : t < length stations = omega (
          arith,
          slice_get_within inters t c other,
          are.first.each,
        ) in
        let same : (station_at stations s).inter.0 ≡ a.0 =
        ap (λ (b : InterId). b.0) (some_inter
        (sym (inter_is p base inters stations are s first) ∙ one)) in
        let also : (station_at stations t).inter.0 ≡ c.0 =
        ap (λ (b : InterId). b.0) (some_inter
        (sym (inter_is p base inters stations are t second) ∙ other)) in
        subst (λ (n : ℕ). IsFirstShare p s n t c.0
        (side_of (sharing_of (machine_of (new_forks p base stations))).sides s t)) same
        (subst (λ (n : ℕ). IsFirstShare p s (station_at stations s).inter.0 t n
        (side_of (sharing_of (machine_of (new_forks p base stations))).sides s t)) also
        (shared_first p base inters stations are s t first second));
    flight = refl;
  };
  content = content_is (new_forks p base stations) (new_kept p base inters stations are)
      ∙ ap (content_open (new_forks p base stations))
      (new_machine p base inters stations are).waiting;
}

pub new_is : (p : Planned) (base : ℕ) (inters : List InterId) (stations : List KeptStation)
    → AreBegun p base inters stations → AreNew (machine_of (new_forks p base stations))
new_is p base inters stations are = new_machine p base inters stations are
