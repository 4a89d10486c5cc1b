-- Stations: what each keeps, and what contracts of private functions say of their calls.
use Rattle.std.specs.Prelude.{◌≡◌, ◌⊎◌, ℕ, ◌==◌, nat_lt, Bool, false, true, List, [], ◌∷◌}
use Rattle.std.specs.Prelude.{◌++◌, None, Option, Some, All, Any, IsSome, IsTrue, map}
use Rattle.std.specs.Prelude.{if◌then◌else◌, slice_index_or, slice_set}
use Rattle.std.specs.Option.{option_map}
use Rattle.bip_model.specs.Wants.{IsFresh}
use Rattle.bip_model.specs.declared.messages.Request.{Request}
use Rattle.bip_model.specs.declared.numbering.CompId.{CompId}
use Rattle.bip_model.specs.declared.numbering.InterId.{InterId}
use Rattle.bip_model.specs.declared.wants.Want.{Want}
use Rattle.bip_table.specs.Reservations.{IsDecision, KeptRows, end_of_serials}
use Rattle.bip_table.specs.Rows.{has_row, raised_to, used_at}
use Rattle.bip_table.specs.declared.reservations.Decision.{Decision}
use Rattle.bip_table.specs.declared.rows.Row.{Row}
use Rattle.bip_bank.specs.declared.banks.StationId.{StationId}
use Rattle.bip_bank.specs.declared.idleness.WhyIdle.TheVariants.{ForkClean, ForkElsewhere, ForkHere}
use Rattle.bip_bank.specs.declared.idleness.WhyIdle.TheVariants.{Lacking, NoFork, NoRequestToken}
use Rattle.bip_bank.specs.declared.idleness.WhyIdle.TheVariants.{NotAskedFor, NothingOpen}
use Rattle.bip_bank.specs.declared.idleness.WhyIdle.{WhyIdle}
use Rattle.bip_forks.specs.Machines.{HasSerial, rows_after, serial_after}
use Rattle.bip_forks.specs.declared.shares.Fork.{Fork}
use Rattle.bip_forks.specs.declared.shares.Neighbours.{Neighbours}
use Rattle.bip_forks.specs.declared.shares.Side.{Side}

-- what a station keeps: its number and its interaction; its table; its open requests, the oldest
-- first; and of each station, in order, what it has of what it shares with that one
pub record KeptStation : Type 0 where
  pub number : StationId
  pub inter : InterId
  pub table : KeptRows
  pub waiting : List Request
  pub sides : List Side

-- the pair of two stations, and the other one of a pair that has this one
abbrev pub pair_of_stations : StationId → StationId → Neighbours
pair_of_stations s t =
    if nat_lt s.0 t.0 then record { low = s; high = t } else record { low = t; high = s }

abbrev pub other_of : Neighbours → StationId → Option StationId
other_of p s =
    if p.low.0 == s.0 then Some p.high else (if p.high.0 == s.0 then Some p.low else None)

-- what a station has of what it shares with one with which it shares nothing
abbrev pub nothing_shared : Side
nothing_shared = record { shared = false; fork = None; clean = false; asked = false }

-- what a station has of what it shares with another one
abbrev pub side_with : KeptStation → ℕ → Side
side_with s t = slice_index_or s.sides t nothing_shared

-- with something else of it
abbrev pub with_side_to : KeptStation → ℕ → Side → KeptStation
with_side_to s t side = record s { sides = slice_set s.sides t side }

-- a station may ask for a fork, as far as what it shares tells: it has the request token, and not
-- the fork
abbrev pub MayAsk : Side → Type 0
MayAsk side = (side.asked ≡ true) × (side.fork ≡ None)

-- it may send a fork: it has the request token, and the fork, dirty
abbrev pub MayPass : Side → Type 0
MayPass side = (side.asked ≡ true) × (side.clean ≡ false) × ((f : Fork) × (side.fork ≡ Some f))

-- why it sends no fork, as far as what it shares tells; and why it doesn't ask for one
abbrev pub KeepsFork : Side → WhyIdle → Type 0
KeepsFork side NoFork = side.shared ≡ false
KeepsFork side ForkElsewhere = (side.shared ≡ true) × (side.fork ≡ None)
KeepsFork side ForkClean =
    (side.shared ≡ true) × (side.clean ≡ true) × ((f : Fork) × (side.fork ≡ Some f))
KeepsFork side NotAskedFor = (side.shared ≡ true) × (side.asked ≡ false)
KeepsFork side why = ⊥

abbrev pub KeepsRequestToken : Side → WhyIdle → Type 0
KeepsRequestToken side NoFork = side.shared ≡ false
KeepsRequestToken side ForkHere = (side.shared ≡ true) × ((f : Fork) × (side.fork ≡ Some f))
KeepsRequestToken side NoRequestToken = (side.shared ≡ true) × (side.asked ≡ false)
KeepsRequestToken side why = ⊥

-- numbers raised to those of rows, one after another
abbrev pub raised_by : List Row → (ℕ → Bool) → (ℕ → ℕ) → ℕ → ℕ
raised_by [] tabled numbers = numbers
raised_by (r ∷ rs) tabled numbers = raised_by rs tabled (raised_to r.comp.0 r.used tabled numbers)

-- a row with the number that others give its component
abbrev pub renumbered : List Row → Row → Row
renumbered rows r = record { used = used_at rows r.comp.0; comp = r.comp }

-- the rows of a fork that lies here, and of all forks that lie at a station
abbrev pub rows_in : Option Fork → List Row
rows_in None = []
rows_in (Some f) = f.rows

abbrev pub rows_here : List Side → List Row
rows_here [] = []
rows_here (s ∷ ss) = rows_in s.fork ++ rows_here ss

-- all forks of a station lie here
abbrev pub LiesHere : Side → Type 0
LiesHere side = IsTrue side.shared → IsSome side.fork

abbrev pub AllLie : List Side → Type 0
AllLie sides = All LiesHere sides

-- what a station has of a fork after a decision: it is dirty, with the numbers of its rows
abbrev pub rewritten : List Row → Side → Side
rewritten rows s =
    record s {
      clean = false;
      fork = option_map (λ (f : Fork). record f { rows = map (renumbered rows) f.rows }) s.fork;
    }

-- a table's used numbers raised to those of the forks that lie here
abbrev pub raised_here : KeptRows → List Side → ℕ → ℕ
raised_here t sides = raised_by (rows_here sides) (has_row t.rows) (used_at t.rows)

-- a table's answer by raised rows, and what it leaves
pub record IsRaisedAnswer (t : KeptRows) (sides : List Side) (q : Request) (d : Decision)
    (later : KeptRows) : Type 0 where
  pub decision : IsDecision (raised_here t sides) q.wants d
  pub serial : HasSerial t.serial d
  pub rows : used_at later.rows ≡ rows_after (raised_here t sides) q d
  pub tabled : has_row later.rows ≡ has_row t.rows
  pub next : later.serial ≡ serial_after t.serial d

-- a station can serve: it has all its forks, and an open request
abbrev pub HasFirst : List Request → Type 0
HasFirst waiting = (q : Request) × (rest : List Request) × (waiting ≡ q ∷ rest)

abbrev pub IsReadyToServe : KeptStation → Type 0
IsReadyToServe s = AllLie s.sides × HasFirst s.waiting

-- why a station can't serve, and why it doesn't ask another one for a fork
abbrev pub IsUnserved : KeptStation → WhyIdle → Type 0
IsUnserved s NothingOpen = ¬ HasFirst s.waiting
IsUnserved s Lacking = ¬ AllLie s.sides
IsUnserved s why = ⊥

abbrev pub AsksNothing : KeptStation → ℕ → WhyIdle → Type 0
AsksNothing s t NothingOpen = ¬ HasFirst s.waiting
AsksNothing s t why = KeepsRequestToken (side_with s t) why

-- a station decided on its oldest open request, and wrote its used numbers into its forks
pub record IsServedHere (s : KeptStation) (q : Request) (d : Decision)
    (later : KeptStation) : Type 0 where
  pub complete : AllLie s.sides
  pub oldest : s.waiting ≡ q ∷ later.waiting
  pub answer : IsRaisedAnswer s.table s.sides q d later.table
  pub after : later
      ≡ record s {
        table = later.table;
        waiting = later.waiting;
        sides = map (rewritten later.table.rows) s.sides;
      }

-- a station's table can't decide on a request: a wanted component has no row; or it would be
-- granted, and no serial is left
abbrev pub CannotAnswer : KeptStation → Request → Type 0
CannotAnswer s q =
    ((c : CompId) × Any (λ (w : Want). w.comp.0 ≡ c.0) q.wants
    × (has_row s.table.rows c.0 ≡ false))
    ⊎ (IsFresh (raised_here s.table s.sides) q.wants × (s.table.serial ≡ end_of_serials))

-- a station raised its rows to the forks that lie here, and nothing else of it changed
pub record IsRaisedAlone (s later : KeptStation) : Type 0 where
  pub used : used_at later.table.rows ≡ raised_here s.table s.sides
  pub tabled : has_row later.table.rows ≡ has_row s.table.rows
  pub serial : later.table.serial ≡ s.table.serial
  pub others : later ≡ record s { table = later.table }

-- what a station that is served and doesn't decide leaves: it can't serve, and all stays; or its
-- table can't decide, and its rows are raised
abbrev pub IsNotServed : KeptStation → KeptStation → Type 0
IsNotServed s later =
    ((later ≡ s) × ¬ IsReadyToServe s)
    ⊎ (IsRaisedAlone s later × (AllLie s.sides × ((q : Request) × (rest : List Request)
    × (s.waiting ≡ q ∷ rest) × CannotAnswer s q)))

-- a station can take what arrives from another one: they share a fork, and what arrives isn't here
abbrev pub CanTakeFork : KeptStation → StationId → Type 0
CanTakeFork s other =
    IsTrue (side_with s other.0).shared × ((side_with s other.0).fork ≡ None)

abbrev pub CanTakeToken : KeptStation → StationId → Type 0
CanTakeToken s other =
    IsTrue (side_with s other.0).shared × ((side_with s other.0).asked ≡ false)

-- with a fork that lies here
abbrev pub with_fork : KeptStation → ℕ → Fork → Bool → KeptStation
with_fork s t fork clean =
    with_side_to s t (record (side_with s t) { fork = Some fork; clean = clean })
