-- Steps on what is kept are the machine's, and what is kept stays so.
use Rattle.std.proofs.Common.{◌≡◌, ◌≢◌, ℕ, zero, suc, ◌<◌, Bool, true, false, cond, eq-eqb, drop}
use Rattle.std.proofs.Common.{get_or, length, map, set, take, List, [], ◌∷◌, ◌++◌, Option, None}
use Rattle.std.proofs.Common.{Some, slice_get, refl, sym, ap, ◌∙◌, subst, inl, inr, arith}
use Rattle.std.specs.Prelude.{◌↔◌, Contains, IsTrue, nat_lt}
use Rattle.std.specs.Option.{option_map}
use Rattle.std.specs.List.{remove}
use Rattle.std.proofs.lemmas.Bool.{ltb-false, ltb-true}
use Rattle.std.proofs.lemmas.Bool.Decides.{eqb_tells}
use Rattle.std.proofs.lemmas.List.{length-map, length-set, length-take-le, map-append}
use Rattle.std.proofs.lemmas.List.Elements.{Contains-append_cases, Contains-append_left}
use Rattle.std.proofs.lemmas.List.Elements.{Contains-append_right, Contains-push_cases}
use Rattle.std.proofs.lemmas.Option.{get_or_from_slice_get, slice_get_within}
use Rattle.bip_model.proofs.ListLemmas.{Contains-head, Contains-tail, parted}
use Rattle.bip_model.specs.declared.grants.Grant.{Grant}
use Rattle.bip_model.specs.declared.numbering.InterId.{InterId}
use Rattle.bip_partition.specs.Plans.{AreStations, Touches}
use Rattle.bip_table.specs.Rows.{has_row, used_at}
use Rattle.bip_bank.specs.declared.banks.Acted.{Acted}
use Rattle.bip_bank.specs.declared.banks.Acted.TheVariants.{Moved}
use Rattle.bip_bank.specs.declared.banks.BankStep.{BankStep}
use Rattle.bip_bank.specs.declared.banks.BankStep.TheVariants.{Ask, Deliver, Pass}
use Rattle.bip_bank.specs.declared.banks.StationId.{StationId}
use Rattle.bip_forks.proofs.CountLemmas.{asks, flies}
use Rattle.bip_forks.proofs.HoldLemmas.{both_swap, share_swap}
use Rattle.bip_forks.proofs.ServedLemmas.{contains_map, lying_of}
use Rattle.bip_forks.proofs.StepLemmas.{step_keeps}
use Rattle.bip_forks.proofs.ViewLemmas.{AreApart, at_set, in_place, machine_side, net_set}
use Rattle.bip_forks.proofs.ViewLemmas.{pair_same, side_set, waiting_at, with_parts}
use Rattle.bip_forks.specs.Kept.{AppliesTo, CanArrive, IsForkOf, IsKeptForks, IsSentOf, KeptForks}
use Rattle.bip_forks.specs.Kept.{lying, machine_of, net_of, no_station, sending_of, side_at}
use Rattle.bip_forks.specs.Kept.{station_at, with_arrived}
use Rattle.bip_forks.specs.Machines.{AreForks, IsForkStep, LyingFork, Machine, Net, Sending}
use Rattle.bip_forks.specs.Machines.{arrived, held, here}
use Rattle.bip_forks.specs.Stations.{KeptStation, MayPass, other_of, pair_of_stations, side_with}
use Rattle.bip_forks.specs.Stations.{with_side_to}
use Rattle.bip_forks.specs.declared.sending.Sent.{Sent}
use Rattle.bip_forks.specs.declared.sending.Sent.TheVariants as sent
use Rattle.bip_forks.specs.declared.shares.AskToken.{AskToken}
use Rattle.bip_forks.specs.declared.shares.Fork.{Fork}
use Rattle.bip_forks.specs.declared.shares.Neighbours.{Neighbours}
use Rattle.bip_forks.specs.declared.shares.Side.{Side}

pub apart_of : (k : KeptForks) → IsKeptForks k → AreApart k.parts.stations
apart_of k is = is.machine.net.apart

-- a list with something else in a place, where that doesn't show
map_set : {X Y : Type 0} (f : X → Y) (xs : List X) (s : ℕ) (x d : X) → f x ≡ f (get_or xs s d)
    → map f (set xs s x) ≡ map f xs
map_set f [] s x d same = refl
map_set {Y = Y} f (y ∷ ys) zero x d same = ap {B = List Y} (λ z. z ∷ map f ys) same
map_set {Y = Y} f (y ∷ ys) (suc s) x d same =
    ap {B = List Y} (λ zs. f y ∷ zs) (map_set f ys s x d same)

-- what is kept stays so with another station, of the same number and interaction
pub kept_set : (k : KeptForks) (s : ℕ) (x : KeptStation) (fl : List Sent) (gs : List Grant)
    → IsKeptForks k → s < length k.parts.stations → x.inter ≡ (station_at k.parts.stations s).inter
    → x.number ≡ (station_at k.parts.stations s).number
    → has_row x.table.rows ≡ has_row (station_at k.parts.stations s).table.rows
    → ((t : ℕ) → (side_with x t).shared ≡ (side_at k.parts.stations s t).shared)
    → ((t : ℕ) (f : Fork) → (side_with x t).fork ≡ Some f → IsForkOf (net_of k) s t f)
    → ((y : Sent) → Contains fl y → IsSentOf (net_of k) y)
    → AreForks (machine_of (with_parts k (set k.parts.stations s x) fl gs))
    → IsKeptForks (with_parts k (set k.parts.stations s x) fl gs)
kept_set k s x fl gs is within inter number rows shared forks' sent' are = record {
  valid = is.valid;
  listed = subst (AreStations k.plan) (sym (map_set
      (λ (st : KeptStation). st.inter) k.parts.stations s x no_station inter)) is.listed;
  numbered = λ i known. at (λ (st : KeptStation). st.number.0 ≡ i) i
      (λ same. ap (λ (n : StationId). n.0) number ∙ (is.numbered s within ∙ sym same))
      (λ other. is.numbered i (omega (arith, known, length-set k.parts.stations s x)));
  rows = λ i c known. at (λ (st : KeptStation). IsTrue
      (has_row st.table.rows c) ↔ Touches k.plan.model st.inter.0 c) i (λ same. own c)
      (λ other. is.rows i c (omega (arith, known, length-set k.parts.stations s x)));
  forks = λ i t f. at (λ (st : KeptStation). (side_with st t).fork ≡ Some f
      → IsForkOf (net_of (with_parts k (set k.parts.stations s x) fl gs)) i t f) i
      (λ same lies'. subst (λ (n : Net). IsForkOf n i t f) (sym same_net)
      (subst (λ j. IsForkOf (net_of k) j t f) (sym same) (forks' t f lies')))
      (λ other lies'. subst (λ (n : Net). IsForkOf n i t f) (sym same_net) (is.forks i t f lies'));
  sent = λ y there. subst (λ (n : Net). IsSentOf n y) (sym same_net) (sent' y there);
  machine = are;
}
  where
    same_net : net_of (with_parts k (set k.parts.stations s x) fl gs) ≡ net_of k
    same_net = net_set k s x fl gs within (ap (λ (a : InterId). a.0) inter) shared

    at : (P : KeptStation → Type 0) (i : ℕ) → (i ≡ s → P x)
        → ((i ≡ s → ⊥) → P (station_at k.parts.stations i))
        → P (station_at (set k.parts.stations s x) i)
    at P i here' there = subst (λ (f : ℕ → KeptStation). P (f i))
        (sym (at_set k.parts.stations s x within)) (elim (eqb_tells i s) [
          | inl same ↦ rw same.0 (here' same.1)
          | inr other ↦ rw other.0 (there other.1)
        ])

    own : (c : ℕ) → IsTrue (has_row x.table.rows c) ↔ Touches k.plan.model x.inter.0 c
    own c =
        let was = is.rows s c within in
        let same : x.inter.0 ≡ (station_at k.parts.stations s).inter.0 =
        ap (λ (a : InterId). a.0) inter in (
          λ row. subst (λ (n : ℕ). Touches k.plan.model n c) (sym same)
              (was.0 (subst (λ (f : ℕ → Bool). IsTrue (f c)) rows row)),
          λ touches. subst (λ (f : ℕ → Bool). IsTrue (f c)) (sym rows)
              (was.1 (subst (λ (n : ℕ). Touches k.plan.model n c) same touches)),
        )

-- with something else of what a station shares
kept_side : (k : KeptForks) (s t : ℕ) (y : Side) (fl : List Sent) → IsKeptForks k
    → s < length k.parts.stations → t < length (station_at k.parts.stations s).sides
    → y.shared ≡ (side_at k.parts.stations s t).shared
    → ((f : Fork) → y.fork ≡ Some f → IsForkOf (net_of k) s t f)
    → ((z : Sent) → Contains fl z → IsSentOf (net_of k) z)
    → AreForks (machine_of (with_parts k (set k.parts.stations s
    (with_side_to (station_at k.parts.stations s) t y)) fl k.parts.grants))
    → IsKeptForks (with_parts k (set k.parts.stations s
    (with_side_to (station_at k.parts.stations s) t y)) fl k.parts.grants)
kept_side k s t y fl is within other shared fork sent' are =
    kept_set k s (with_side_to st t y) fl k.parts.grants is within refl refl refl
    (λ j. read (λ (z : Side). z.shared ≡ (side_at k.parts.stations s j).shared) j
    (λ same. shared ∙ ap (λ i. (side_at k.parts.stations s i).shared) (sym same))
    (λ apart. refl))
    (λ j f. read (λ (z : Side). z.fork ≡ Some f → IsForkOf (net_of k) s j f) j
    (λ same lies'. rw same (fork f lies')) (λ apart. is.forks s j f)) sent' are
  where
    st : KeptStation
    st = station_at k.parts.stations s

    read : (P : Side → Type 0) (j : ℕ) → (j ≡ t → P y)
        → ((j ≡ t → ⊥) → P (side_with (station_at k.parts.stations s) j))
        → P (side_with (with_side_to (station_at k.parts.stations s) t y) j)
    read P j here there = subst (λ (f : ℕ → Side). P (f j))
        (sym (side_set (station_at k.parts.stations s) t y other)) (elim (eqb_tells j t) [
          | inl same ↦ rw same.0 (here same.1)
          | inr apart ↦ rw apart.0 (there apart.1)
        ])

-- what a step leaves of what is kept
pub record StepsOn (k : KeptForks) (step : BankStep) (did : Acted)
    (later : KeptForks) : Type 0 where
  pub does : IsForkStep (machine_of k) step did (machine_of later)
  pub kept : IsKeptForks later

pub keeps_on : (k later : KeptForks) (step : BankStep) (did : Acted) → IsKeptForks k
    → IsForkStep (machine_of k) step did (machine_of later)
    → (AreForks (machine_of later) → IsKeptForks later) → StepsOn k step did later
keeps_on k later step did is does kept = record {
  does = does;
  kept = kept (step_keeps (machine_of k) (machine_of later) step did is.machine does);
}

-- machines with other forks, tokens and things in flight
with_three : (m : Machine) (f g : ℕ → ℕ → Option LyingFork) (t u : ℕ → ℕ → Bool)
    (x y : List Sending) → f ≡ g → t ≡ u → x ≡ y
    → record m { forks = f; tokens = t; flight = x }
    ≡ record m { forks = g; tokens = u; flight = y }
with_three m f g t u x y a b c = rw (a, b, c) refl

-- the places of two stations, the first of which has something of what they share
places_of : (k : KeptForks) (s t : ℕ) → (side_at k.parts.stations s t).asked ≡ true
    → (s < length k.parts.stations) × (t < length (station_at k.parts.stations s).sides)
places_of k s t asked = in_place k.parts.stations s t (λ (side : Side). side.asked) refl asked

pub steps_pass : (k : KeptForks) (s t : StationId) (fork : Fork) → IsKeptForks k
    → MayPass (side_at k.parts.stations s.0 t.0)
    → (side_at k.parts.stations s.0 t.0).fork ≡ Some fork
    → StepsOn k (Pass s t) Moved (with_parts k
    (set k.parts.stations s.0 (with_side_to (station_at k.parts.stations s.0) t.0
    (record (side_at k.parts.stations s.0 t.0) { fork = None })))
    (k.parts.flight ++ sent.Fork s t fork ∷ []) k.parts.grants)
steps_pass k s t fork is may lies' =
    keeps_on k _ (Pass s t) Moved is (record {
      fork = record { clean = side.clean; numbers = used_at fork.rows };
      asked = may.0;
      here = lying_of side fork lies';
      dirty = may.1;
      after = machine_side k s.0 t.0 (record side { fork = None }) flight' places.0 places.1 refl
          (apart_of k is)
          ∙ with_three (machine_of k) _ _ _ _ _ _ refl (pair_same (machine_of k).tokens s.0 t.0)
          (map-append sending_of k.parts.flight (sent.Fork s t fork ∷ []));
    }) (kept_side k s.0 t.0 (record side { fork = None }) flight' is places.0 places.1 refl
    (λ f none. none_some none) sent')
  where
    side : Side
    side = side_at k.parts.stations s.0 t.0

    flight' : List Sent
    flight' = k.parts.flight ++ sent.Fork s t fork ∷ []

    places : (s.0 < length k.parts.stations) × (t.0 < length
        (station_at k.parts.stations s.0).sides)
    places = places_of k s.0 t.0 may.0

    none_some : {A : Type 0} {f : Fork} → None ≡ Some f → A
    none_some e = cc

    sent' : (z : Sent) → Contains (k.parts.flight ++ sent.Fork s t fork ∷ []) z
        → IsSentOf (net_of k) z
    sent' z there = elim (Contains-push_cases k.parts.flight (sent.Fork s t fork) z there) [
      | inl old ↦ is.sent z old
      | inr new ↦ subst (IsSentOf (net_of k)) new (is.forks s.0 t.0 fork lies')
    ]

pub steps_ask : (k : KeptForks) (s t : StationId) (token : AskToken) → IsKeptForks k
    → AppliesTo k.parts (Ask s t) → token.pair ≡ pair_of_stations
    (station_at k.parts.stations s.0).number t
    → StepsOn k (Ask s t) Moved (with_parts k
    (set k.parts.stations s.0 (with_side_to (station_at k.parts.stations s.0) t.0
    (record (side_at k.parts.stations s.0 t.0) { asked = false })))
    (k.parts.flight ++ sent.Ask s t token ∷ []) k.parts.grants)
steps_ask k s t token is (first, may) pair =
    keeps_on k _ (Ask s t) Moved is (record {
      waits = (
        first.0,
        first.1,
        waiting_at k.parts.stations s.0 places.0 (apart_of k
            is) ∙ first.2,
      );
      asked = may.0;
      away = ap (option_map (λ (f : Fork). record { clean = side.clean; numbers = used_at f.rows }))
          may.1;
      after = machine_side k s.0 t.0 (record side { asked = false }) flight' places.0 places.1 refl
          (apart_of k is)
          ∙ with_three (machine_of k) _ _ _ _ _ _ (pair_same (machine_of k).forks s.0 t.0) refl
          (map-append sending_of k.parts.flight (sent.Ask s t token ∷ []));
    }) (kept_side k s.0 t.0 (record side { asked = false }) flight' is places.0 places.1 refl
    (λ f lies'. is.forks s.0 t.0 f lies') sent')
  where
    side : Side
    side = side_at k.parts.stations s.0 t.0

    flight' : List Sent
    flight' = k.parts.flight ++ sent.Ask s t token ∷ []

    places : (s.0 < length k.parts.stations) × (t.0 < length
        (station_at k.parts.stations s.0).sides)
    places = places_of k s.0 t.0 may.0

    sent' : (z : Sent) → Contains (k.parts.flight ++ sent.Ask s t token ∷ []) z
        → IsSentOf (net_of k) z
    sent' z there = elim (Contains-push_cases k.parts.flight (sent.Ask s t token) z there) [
      | inl old ↦ is.sent z old
      | inr new ↦ subst (IsSentOf (net_of k)) new
          (pair ∙ ap (λ (n : ℕ). pair_of_stations (record { 0 = n }) t) (is.numbered s.0 places.0))
    ]

-- pairs, from either station
abbrev ordered : Bool → StationId → StationId → Neighbours
ordered b s t = cond b (record { low = s; high = t }) (record { low = t; high = s })

pair_swap : (s t : StationId) → s.0 ≢ t.0 → pair_of_stations s t ≡ pair_of_stations t s
pair_swap s t apart = by_order (nat_lt s.0 t.0) (nat_lt t.0 s.0) refl refl
  where
    by_order : (a b : Bool) → nat_lt s.0 t.0 ≡ a → nat_lt t.0 s.0 ≡ b
        → ordered a s t ≡ ordered b t s
    by_order true true one other = absurd (omega (
      arith,
      ltb-true s.0 t.0 one,
      ltb-true t.0 s.0 other,
    ))
    by_order true false one other = refl
    by_order false true one other = refl
    by_order false false one other = absurd (apart
        (omega (arith, ltb-false s.0 t.0 one, ltb-false t.0 s.0 other)))

-- what is in flight can arrive
other_pair : (s t : StationId) (n : StationId) → s.0 ≢ t.0 → n.0 ≡ t.0
    → other_of (pair_of_stations s t) n ≡ Some s
other_pair s t n apart same = by_order (nat_lt s.0 t.0) refl
  where
    by_order : (b : Bool) → nat_lt s.0 t.0 ≡ b → other_of (ordered b s t) n ≡ Some s
    by_order true is = elim (eqb_tells s.0 n.0) [
      | inl e ↦ absurd (apart (e.1 ∙ same))
      | inr e ↦ rw (e.0, eq-eqb t.0 n.0 (sym same)) refl
    ]
    by_order false is = rw (eq-eqb t.0 n.0 (sym same)) refl

no_fork : (side : Side) → here (lying side) ≡ 0 → side.fork ≡ None
no_fork side none = by_fork side.fork refl
  where
    by_fork : (o : Option Fork) → side.fork ≡ o → side.fork ≡ None
    by_fork None was = was
    by_fork (Some f) was = let one : here (lying side) ≡ 1 = ap here (lying_of side f was) in
        absurd (omega (arith, none, one))

no_token : (b : Bool) → held b ≡ 0 → b ≡ false
no_token true none = absurd (omega (arith, none))
no_token false none = refl

pub can_arrive : (k : KeptForks) → IsKeptForks k → (x : Sent) → Contains k.parts.flight x
    → CanArrive k.parts.stations x
can_arrive k is (sent.Fork s t f) there =
    let flies' = contains_map sending_of k.parts.flight (sent.Fork s t f) there in
    let share = is.machine.sent_shared s.0 t.0 (used_at f.rows) flies' in
    let fork = is.sent (sent.Fork s t f) there in
    let none : here ((machine_of k).forks t.0 s.0) ≡ 0 =
    omega (
      arith,
      is.machine.one s.0 t.0 share,
      flies s.0 t.0 (used_at f.rows) (machine_of k).flight flies',
    ) in (
      share.other,
      ap (λ (p : Neighbours). other_of p (station_at k.parts.stations t.0).number) fork.pair
          ∙ other_pair s t (station_at k.parts.stations t.0).number share.apart
          (is.numbered t.0 share.other),
      (
        (is.machine.net.share t.0 s.0).1 (share_swap (net_of k) s.0 t.0 share),
        no_fork (side_at k.parts.stations t.0 s.0) none,
      ),
    )
can_arrive k is (sent.Ask s t token) there =
    let flies' = contains_map sending_of k.parts.flight (sent.Ask s t token) there in
    let share = is.machine.sent_token_shared s.0 t.0 flies' in
    let pair = is.sent (sent.Ask s t token) there in
    let none : held ((machine_of k).tokens t.0 s.0) ≡ 0 =
    omega (
      arith,
      is.machine.one_token s.0 t.0 share,
      asks s.0 t.0 (machine_of k).flight flies',
    ) in (
      share.other,
      ap (λ (p : Neighbours). other_of p (station_at k.parts.stations t.0).number) pair
          ∙ other_pair s t (station_at k.parts.stations t.0).number share.apart
          (is.numbered t.0 share.other),
      (
        (is.machine.net.share t.0 s.0).1 (share_swap (net_of k) s.0 t.0 share),
        no_token (side_at k.parts.stations t.0 s.0).asked none,
      ),
    )

-- what was taken out of what is in flight
pub parted_at : (xs : List Sent) (k : ℕ) (x : Sent) → slice_get xs k ≡ Some x
    → (take k xs ++ x ∷ drop (suc k) xs ≡ xs) × (length (take k xs) ≡ k) × Contains xs x
parted_at xs k x is =
    let within = slice_get_within xs k x is in
    let whole : take k xs ++ x ∷ drop (suc k) xs ≡ xs =
    subst (λ (y : Sent). take k xs ++ y ∷ drop (suc k) xs ≡ xs)
    (get_or_from_slice_get xs k x x is) (parted xs k x within) in (
      whole,
      length-take-le k xs (omega (arith, within)),
      subst (λ (ys : List Sent). Contains ys x) whole
          (Contains-append_right (take k xs) (x ∷ drop (suc k) xs) x
          (Contains-head x (drop (suc k) xs))),
    )

rest_there : (xs : List Sent) (k : ℕ) (x y : Sent) → slice_get xs k ≡ Some x
    → Contains (remove xs k) y → Contains xs y
rest_there xs k x y is there = subst (λ (ys : List Sent). Contains ys y) (parted_at xs k x is).0
    (elim (Contains-append_cases (take k xs) (drop (suc k) xs) y there) [
      | inl before ↦ Contains-append_left (take k xs) (x ∷ drop (suc k) xs) y before
      | inr behind ↦ Contains-append_right (take k xs) (x ∷ drop (suc k) xs) y
          (Contains-tail x y (drop (suc k) xs) behind)
    ])

delivers : (k : KeptForks) (n : ℕ) (x : Sent) (later : KeptForks) → IsKeptForks k
    → slice_get k.parts.flight n ≡ Some x
    → machine_of later ≡ arrived (sending_of x)
    (record (machine_of k) { flight = map sending_of (remove k.parts.flight n) })
    → IsForkStep (machine_of k) (Deliver n) Moved (machine_of later)
delivers k n x later is at after =
    let cut = parted_at k.parts.flight n x at in
    record {
      front = map sending_of (take n k.parts.flight);
      sent = sending_of x;
      back = map sending_of (drop (suc n) k.parts.flight);
      before = length-map (take n k.parts.flight) sending_of ∙ cut.1;
      whole = ap (map sending_of) (sym cut.0)
          ∙ map-append sending_of (take n k.parts.flight) (x ∷ drop (suc n) k.parts.flight);
      after = after ∙ ap (λ (fl : List Sending). arrived (sending_of x)
          (record (machine_of k) { flight = fl }))
          (map-append sending_of (take n k.parts.flight) (drop (suc n) k.parts.flight));
    }

pub steps_deliver : (k : KeptForks) (n : ℕ) (x : Sent) → IsKeptForks k
    → slice_get k.parts.flight n ≡ Some x → StepsOn k (Deliver n) Moved
    (with_parts k (with_arrived x k.parts.stations) (remove k.parts.flight n) k.parts.grants)
steps_deliver k n (sent.Fork s t f) is at =
    keeps_on k _ (Deliver n) Moved is (delivers k n (sent.Fork s t f) _ is at
    (machine_side k t.0 s.0 y flight' places.0 places.1 refl (apart_of k is)
    ∙ with_three (machine_of k) _ _ _ _ _ _ refl
    (pair_same (machine_of k).tokens t.0 s.0) refl))
    (kept_side k t.0 s.0 y flight' is places.0 places.1 refl
    (λ g same. subst (IsForkOf (net_of k) t.0 s.0) (some_fork same) turned)
    (λ z there. is.sent z (rest_there k.parts.flight n (sent.Fork s t f) z at there)))
  where
    y : Side
    y = record (side_at k.parts.stations t.0 s.0) { fork = Some f; clean = true }

    flight' : List Sent
    flight' = remove k.parts.flight n

    can : CanArrive k.parts.stations (sent.Fork s t f)
    can = can_arrive k is (sent.Fork s t f) (parted_at k.parts.flight n (sent.Fork s t f) at).2

    places : (t.0 < length k.parts.stations) × (s.0 < length
        (station_at k.parts.stations t.0).sides)
    places = in_place k.parts.stations t.0 s.0 (λ (side : Side). side.shared) refl can.2.0

    some_fork : {a b : Fork} → Some a ≡ Some b → a ≡ b
    some_fork e = cc

    turned : IsForkOf (net_of k) t.0 s.0 f
    turned =
        let of = is.sent (sent.Fork s t f) (parted_at k.parts.flight n (sent.Fork s t f) at).2 in
        let share = (is.machine.net.share t.0 s.0).0 can.2.0 in
        record {
          pair = of.pair ∙ pair_swap s t (λ e. share.apart (sym e));
          rising = of.rising;
          rows = λ c. (
            λ row. both_swap (net_of k) s.0 t.0 c ((of.rows c).0 row),
            λ both. (of.rows c).1 (both_swap (net_of k) t.0 s.0 c both),
          );
        }
steps_deliver k n (sent.Ask s t token) is at =
    keeps_on k _ (Deliver n) Moved is (delivers k n (sent.Ask s t token) _ is at
    (machine_side k t.0 s.0 y flight' places.0 places.1 refl (apart_of k is)
    ∙ with_three (machine_of k) _ _ _ _ _ _ (pair_same (machine_of k).forks t.0 s.0) refl refl))
    (kept_side k t.0 s.0 y flight' is places.0 places.1 refl (λ g same. is.forks t.0 s.0 g same)
    (λ z there. is.sent z (rest_there k.parts.flight n (sent.Ask s t token) z at there)))
  where
    y : Side
    y = record (side_at k.parts.stations t.0 s.0) { asked = true }

    flight' : List Sent
    flight' = remove k.parts.flight n

    can : CanArrive k.parts.stations (sent.Ask s t token)
    can = can_arrive k is (sent.Ask s t token)
        (parted_at k.parts.flight n (sent.Ask s t token) at).2

    places : (t.0 < length k.parts.stations) × (s.0 < length
        (station_at k.parts.stations t.0).sides)
    places = in_place k.parts.stations t.0 s.0 (λ (side : Side). side.shared) refl can.2.0
