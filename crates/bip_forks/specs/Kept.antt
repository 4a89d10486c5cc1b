-- What forks keep, as a machine and as a bank; and what contracts of private functions say of steps
-- on it.
use Rattle.std.specs.Prelude.{◌≡◌, ◌↔◌, ◌⊎◌, ℕ, ◌<◌, ◌≤◌, ◌==◌, List, [], ◌∷◌, ◌++◌, Option, None}
use Rattle.std.specs.Prelude.{Some}
use Rattle.std.specs.Prelude.{Any, Contains, IsTrue, false, length, map, if◌then◌else◌, slice_get}
use Rattle.std.specs.Prelude.{true}
use Rattle.std.specs.Prelude.{slice_index_or, slice_set}
use Rattle.std.specs.List.{range_with_len, remove}
use Rattle.std.specs.List.Sorted.{IsStrictlyIncreasing}
use Rattle.std.specs.Option.{option_map}
use Rattle.bip_model.specs.Parts.{IsSystem}
use Rattle.bip_model.specs.declared.grants.Grant.{Grant}
use Rattle.bip_model.specs.declared.messages.Request.{Request}
use Rattle.bip_model.specs.declared.wants.Want.{Want}
use Rattle.bip_partition.specs.Plans.{AreStations, Planned, Touches}
use Rattle.bip_table.specs.Rows.{has_row, row_components, used_at}
use Rattle.bip_bank.specs.Banks.{KeptBank}
use Rattle.bip_bank.specs.Sharing.{forks}
use Rattle.bip_bank.specs.declared.banks.Acted.{Acted}
use Rattle.bip_bank.specs.declared.banks.Acted.TheVariants.{Answered, Moved, Nothing}
use Rattle.bip_bank.specs.declared.banks.BankStep.{BankStep}
use Rattle.bip_bank.specs.declared.banks.BankStep.TheVariants.{Ask, Deliver, Pass, Serve}
use Rattle.bip_bank.specs.declared.idleness.WhyIdle.TheVariants.{NothingOpen, NothingThere}
use Rattle.bip_bank.specs.declared.idleness.WhyIdle.{WhyIdle}
use Rattle.bip_forks.specs.Laws.{sharing_of}
use Rattle.bip_forks.specs.Machines.{AreForks, AtBoth, IsListed, LyingFork, Machine, Net, Sending}
use Rattle.bip_forks.specs.Machines.{grants_after, sent_fork, sent_token, used_by_all}
use Rattle.bip_forks.specs.Stations.{AsksNothing, CanTakeFork, CanTakeToken, HasFirst}
use Rattle.bip_forks.specs.Stations.{IsReadyToServe, IsServedHere, IsUnserved, KeepsFork}
use Rattle.bip_forks.specs.Stations.{KeptStation, MayAsk, MayPass, other_of, pair_of_stations}
use Rattle.bip_forks.specs.Stations.{side_with}
use Rattle.bip_forks.specs.Stations.{with_fork, with_side_to}
use Rattle.bip_forks.specs.declared.sending.Sent.{Sent}
use Rattle.bip_forks.specs.declared.sending.Sent.TheVariants as sent
use Rattle.bip_forks.specs.declared.shares.AskToken.{AskToken}
use Rattle.bip_forks.specs.declared.shares.Fork.{Fork}
use Rattle.bip_forks.specs.declared.shares.Side.{Side}

-- what moves of forks: their stations, in order; what is in flight, the oldest first; and the
-- grants, in order of decision
pub record ForkParts : Type 0 where
  pub stations : List KeptStation
  pub flight : List Sent
  pub grants : List Grant

abbrev pub fork_parts : List KeptStation → List Sent → List Grant → ForkParts
fork_parts stations flight grants =
    record { stations = stations; flight = flight; grants = grants }

-- what forks keep
pub record KeptForks : Type 0 where
  pub plan : Planned
  pub base : ℕ
  pub parts : ForkParts

-- a station that there isn't
abbrev pub no_station : KeptStation
no_station =
    record {
      number = record { 0 = 0 };
      inter = record { 0 = 0 };
      table = record { rows = []; floor = []; journal = []; serial = 0; room = 0 };
      waiting = [];
      sides = [];
    }

-- a station by its number, and what it has of what it shares with another one
abbrev pub station_at : List KeptStation → ℕ → KeptStation
station_at stations s = slice_index_or stations s no_station

abbrev pub side_at : List KeptStation → ℕ → ℕ → Side
side_at stations s t = side_with (station_at stations s) t

-- the open requests of an interaction: those of its station
abbrev pub waiting_of : List KeptStation → ℕ → List Request
waiting_of [] a = []
waiting_of (s ∷ ss) a = if s.inter.0 == a then s.waiting else waiting_of ss a

-- a fork as it lies at a station
abbrev pub lying : Side → Option LyingFork
lying side =
    option_map (λ (f : Fork). record { clean = side.clean; numbers = used_at f.rows }) side.fork

abbrev pub sending_of : Sent → Sending
sending_of (sent.Fork s t fork) = sent_fork s.0 t.0 (used_at fork.rows)
sending_of (sent.Ask s t token) = sent_token s.0 t.0

-- the machine of what is kept
abbrev pub net_of : KeptForks → Net
net_of k =
    record {
      plan = k.plan;
      base = k.base;
      count = length k.parts.stations;
      inter = λ s. (station_at k.parts.stations s).inter.0;
      shares = λ s t. (side_at k.parts.stations s t).shared;
    }

abbrev pub machine_of : KeptForks → Machine
machine_of k =
    record {
      net = net_of k;
      forks = λ s t. lying (side_at k.parts.stations s t);
      tokens = λ s t. (side_at k.parts.stations s t).asked;
      flight = map sending_of k.parts.flight;
      used = λ s. used_at (station_at k.parts.stations s).table.rows;
      serial = λ s. (station_at k.parts.stations s).table.serial;
      grants = k.parts.grants;
      waiting = waiting_of k.parts.stations;
    }

-- what is kept of it as a bank: the used number of each component, which all grants explain; and
-- the open requests of each interaction
abbrev pub kept_forks : KeptForks → KeptBank
kept_forks k =
    record {
      plan = k.plan;
      base = k.base;
      rows = map
          (λ c. record { used = used_by_all (net_of k) k.parts.grants c; comp = record { 0 = c } })
          (range_with_len 0 (length k.plan.model.components));
      grants = k.parts.grants;
      waiting = map (waiting_of k.parts.stations)
          (range_with_len 0 (length k.plan.model.interactions));
      sharing = forks (sharing_of (machine_of k));
    }

-- a fork is of two stations, and has a number of each component that both touch
pub record IsForkOf (n : Net) (s t : ℕ) (f : Fork) : Type 0 where
  pub pair : f.pair ≡ pair_of_stations (record { 0 = s }) (record { 0 = t })
  pub rising : IsStrictlyIncreasing (row_components f.rows)
  pub rows : (c : ℕ) → IsTrue (has_row f.rows c) ↔ AtBoth n s t c

-- what is in flight is of the stations that it goes from and to
abbrev pub IsSentOf : Net → Sent → Type 0
IsSentOf n (sent.Fork s t fork) = IsForkOf n s.0 t.0 fork
IsSentOf n (sent.Ask s t token) =
    token.pair ≡ pair_of_stations (record { 0 = s.0 }) (record { 0 = t.0 })

-- what is kept of any forks: the stations of the plan, each with a row of each component that its
-- interaction touches; forks with the numbers of what both of their stations touch; and all that
-- the machine keeps
pub record IsKeptForks (k : KeptForks) : Type 0 where
  pub valid : IsSystem k.plan.model
  pub listed : AreStations k.plan (map (λ (s : KeptStation). s.inter) k.parts.stations)
  pub numbered : (s : ℕ) → s < length k.parts.stations
      → (station_at k.parts.stations s).number.0 ≡ s
  pub rows : (s c : ℕ) → s < length k.parts.stations
      → IsTrue (has_row (station_at k.parts.stations s).table.rows c)
      ↔ Touches k.plan.model (station_at k.parts.stations s).inter.0 c
  pub forks : (s t : ℕ) (f : Fork) → (side_at k.parts.stations s t).fork ≡ Some f
      → IsForkOf (net_of k) s t f
  pub sent : (x : Sent) → Contains k.parts.flight x → IsSentOf (net_of k) x
  pub machine : AreForks (machine_of k)

-- What contracts of private functions say.

-- with another station, and with something else of what one shares
abbrev pub with_station : ℕ → KeptStation → ForkParts → ForkParts
with_station s x p = record p { stations = slice_set p.stations s x }

abbrev pub with_side_at : ℕ → ℕ → Side → ForkParts → ForkParts
with_side_at s t side p = with_station s (with_side_to (station_at p.stations s) t side) p

-- with something more in flight
abbrev pub with_sent : Sent → ForkParts → ForkParts
with_sent x p = record p { flight = p.flight ++ x ∷ [] }

-- what arrives can be taken
abbrev pub CanArrive : List KeptStation → Sent → Type 0
CanArrive stations (sent.Fork s t fork) =
    (t.0 < length stations) × (other_of fork.pair (station_at stations t.0).number ≡ Some s)
    × CanTakeFork (station_at stations t.0) s
CanArrive stations (sent.Ask s t token) =
    (t.0 < length stations) × (other_of token.pair (station_at stations t.0).number ≡ Some s)
    × CanTakeToken (station_at stations t.0) s

-- the stations after something arrived
abbrev pub with_arrived : Sent → List KeptStation → List KeptStation
with_arrived (sent.Fork s t fork) stations =
    slice_set stations t.0 (with_fork (station_at stations t.0) s.0 fork true)
with_arrived (sent.Ask s t token) stations =
    slice_set stations t.0 (with_side_to (station_at stations t.0) s.0
    (record (side_at stations t.0 s.0) { asked = true }))

-- each station can decide on its oldest open request: each component that it wants has a row, and
-- the station's next serial is at most the number of grants
pub record CanAnswer (stations : List KeptStation) (grants : List Grant) : Type 0 where
  pub rows : (s : ℕ) (q : Request) (rest : List Request) → s < length stations
      → (station_at stations s).waiting ≡ q ∷ rest → (c : ℕ)
      → Any (λ (w : Want). w.comp.0 ≡ c) q.wants
      → has_row (station_at stations s).table.rows c ≡ true
  pub serials : (s : ℕ) → (station_at stations s).table.serial ≤ length grants

-- when a step applies
abbrev pub AppliesTo : ForkParts → BankStep → Type 0
AppliesTo p (Deliver k) = k < length p.flight
AppliesTo p (Serve s) = (s.0 < length p.stations) × IsReadyToServe (station_at p.stations s.0)
AppliesTo p (Pass s t) = MayPass (side_at p.stations s.0 t.0)
AppliesTo p (Ask s t) =
    HasFirst (station_at p.stations s.0).waiting × MayAsk (side_at p.stations s.0 t.0)

-- why a step doesn't apply; a station that there isn't has no request
abbrev pub IsIdleHere : ForkParts → BankStep → WhyIdle → Type 0
IsIdleHere p (Deliver k) NothingThere = length p.flight ≤ k
IsIdleHere p (Deliver k) why = ⊥
IsIdleHere p (Serve s) why =
    (s.0 < length p.stations) × IsUnserved (station_at p.stations s.0) why
    ⊎ (length p.stations ≤ s.0) × (why ≡ NothingOpen)
IsIdleHere p (Pass s t) why = KeepsFork (side_at p.stations s.0 t.0) why
IsIdleHere p (Ask s t) why =
    (s.0 < length p.stations) × AsksNothing (station_at p.stations s.0) t.0 why
    ⊎ (length p.stations ≤ s.0) × (why ≡ NothingOpen)

-- memory is wanted only where a step applies; to deliver takes none
abbrev pub CanLack : ForkParts → BankStep → Type 0
CanLack p (Deliver k) = ⊥
CanLack p step = AppliesTo p step

-- what a step does and leaves
abbrev pub DoesHere : ForkParts → BankStep → Acted → ForkParts → Type 0
DoesHere p step Nothing later = (later ≡ p) × ¬ AppliesTo p step
DoesHere p (Deliver k) Moved later =
    (x : Sent) × (slice_get p.flight k ≡ Some x)
    × (later
    ≡ record p { stations = with_arrived x p.stations; flight = remove p.flight k })
DoesHere p (Pass s t) Moved later =
    (fork : Fork) × MayPass (side_at p.stations s.0 t.0)
    × ((side_at p.stations s.0 t.0).fork ≡ Some fork)
    × (later
    ≡ with_sent (sent.Fork s t fork)
    (with_side_at s.0 t.0 (record (side_at p.stations s.0 t.0) { fork = None }) p))
DoesHere p (Ask s t) Moved later =
    (token : AskToken) × AppliesTo p (Ask s t)
    × (token.pair ≡ pair_of_stations (station_at p.stations s.0).number t)
    × (later
    ≡ with_sent (sent.Ask s t token)
    (with_side_at s.0 t.0 (record (side_at p.stations s.0 t.0) { asked = false }) p))
DoesHere p (Serve s) (Answered q d) later =
    (x : KeptStation) × (s.0 < length p.stations)
    × IsServedHere (station_at p.stations s.0) q d x × IsListed p.grants d
    × (later ≡ record (with_station s.0 x p) { grants = grants_after p.grants q d })
DoesHere p step did later = ⊥
