-- How forks begin: their stations at first, and the bank that they are.
use Rattle.std.specs.Prelude.{◌≡◌, ◌≢◌, ◌↔◌, ℕ, ◌<◌, ◌≤◌, List, [], None, Some, Option, Contains}
use Rattle.std.specs.Prelude.{IsTrue, false, true, length, map, slice_get, slice_index_or}
use Rattle.std.specs.List.Sorted.{IsStrictlyIncreasing}
use Rattle.bip_model.specs.declared.numbering.CompId.{CompId}
use Rattle.bip_model.specs.declared.numbering.InterId.{InterId}
use Rattle.bip_partition.specs.Plans.{AreStations, InConflict, IsListTouched, Planned, Touches}
use Rattle.bip_table.specs.Rows.{has_row, row_components, rows_of, used_at}
use Rattle.bip_table.specs.declared.rows.Row.{Row}
use Rattle.bip_bank.specs.Banks.{BankContent, asked_nothing}
use Rattle.bip_bank.specs.ForkSharing.{ForkSharing, ForkSide, away, dirty, side_of}
use Rattle.bip_bank.specs.Sharing.{Sharing, forks}
use Rattle.bip_forks.specs.Kept.{station_at}
use Rattle.bip_forks.specs.Stations.{KeptStation, nothing_shared, pair_of_stations}
use Rattle.bip_forks.specs.declared.shares.Fork.{Fork}
use Rattle.bip_forks.specs.declared.shares.Side.{Side}

-- two stations, by their interactions, share a fork: they are two, and in conflict
abbrev pub SharedByPlan : Planned → ℕ → ℕ → ℕ → ℕ → Type 0
SharedByPlan p s a t b = (s ≢ t) × InConflict p.model a b

-- what stations share at first, of each two: where they share a fork, it lies dirty with the lower
-- one, and its request token with the higher
pub record IsFirstShare (p : Planned) (s a t b : ℕ) (side : Option ForkSide) : Type 0 where
  pub none : ¬ SharedByPlan p s a t b → side ≡ None
  pub lower : SharedByPlan p s a t b → s < t
      → side ≡ Some (record { fork = dirty; token = false })
  pub higher : SharedByPlan p s a t b → t < s
      → side ≡ Some (record { fork = away; token = true })

-- what the stations of forks share at first: they are those of the plan, and there is a place for
-- each two of them and no more; each fork is dirty and with the lower of its stations, its request
-- token with the higher, and nothing is in flight
pub record AreForksAtFirst (p : Planned) (shared : Sharing) : Type 0 where
  pub stations : List InterId
  pub listed : AreStations p stations
  pub sharing : ForkSharing
  pub is : shared ≡ forks sharing
  pub each : length sharing.sides ≡ length stations
  pub with_each : (s : ℕ) → s < length stations
      → length (slice_index_or sharing.sides s []) ≡ length stations
  pub sides : (s t : ℕ) (a c : InterId) → slice_get stations s ≡ Some a
      → slice_get stations t ≡ Some c → IsFirstShare p s a.0 t c.0 (side_of sharing.sides s t)
  pub flight : sharing.flight ≡ []

-- new forks were asked nothing
pub record IsNewForks (p : Planned) (base : ℕ) (b : BankContent) : Type 0 where
  pub first : AreForksAtFirst p b.sharing
  pub content : b ≡ asked_nothing p base b.sharing

-- a plan has no station with this number
pub record LacksStation (p : Planned) (s : ℕ) : Type 0 where
  pub stations : List InterId
  pub listed : AreStations p stations
  pub past : length stations ≤ s

-- what two interactions both touch
abbrev pub BothTouch : Planned → ℕ → ℕ → ℕ → Type 0
BothTouch p a b c = Touches p.model a c × Touches p.model b c

-- the list of the components that have something in common, in order of their numbers
pub record IsListCommon (both : ℕ → Type 0) (list : List CompId) : Type 0 where
  pub rising : IsStrictlyIncreasing (map (λ (c : CompId). c.0) list)
  pub exact : (c : ℕ) → Contains list (record { 0 = c }) ↔ both c

-- a row of each of some components, with a number
abbrev pub rows_with : ℕ → List CompId → List Row
rows_with base comps = map (λ (c : CompId). record { used = base; comp = c }) comps

-- rows of what two stations have in common, each with a number
pub record IsCommon (both : ℕ → Type 0) (base : ℕ) (rows : List Row) : Type 0 where
  pub rising : IsStrictlyIncreasing (row_components rows)
  pub tabled : (c : ℕ) → IsTrue (has_row rows c) ↔ both c
  pub numbers : (c : ℕ) → IsTrue (has_row rows c) → used_at rows c ≡ base

-- what a station has at first of what it shares with another one, by the interactions of both
pub record IsFirstSide (p : Planned) (base s a t b : ℕ) (side : Side) : Type 0 where
  pub shared : IsTrue side.shared ↔ SharedByPlan p s a t b
  pub clean : side.clean ≡ false
  pub asked : IsTrue side.asked ↔ (IsTrue side.shared × (t < s))
  pub away : (¬ (IsTrue side.shared × (s < t))) → side.fork ≡ None
  pub fork : IsTrue side.shared → s < t → (f : Fork) × (side.fork ≡ Some f)
      × (f.pair ≡ pair_of_stations (record { 0 = s }) (record { 0 = t }))
      × IsCommon (BothTouch p a b) base f.rows

-- the same of the stations before a number
pub record AreFirstSides (p : Planned) (base : ℕ) (inters : List InterId) (s : ℕ) (a : InterId)
    (count : ℕ) (sides : List Side) : Type 0 where
  pub each : length sides ≡ count
  pub first : (t : ℕ) (b : InterId) → t < count → slice_get inters t ≡ Some b
      → IsFirstSide p base s a.0 t b.0 (slice_index_or sides t nothing_shared)

-- a station at first: a row of each component that its interaction touches, with the base; nothing
-- is open, and what it shares with each station is as at first
pub record IsFirstStation (p : Planned) (base : ℕ) (inters : List InterId) (s : ℕ) (a : InterId)
    (st : KeptStation) : Type 0 where
  pub number : st.number.0 ≡ s
  pub inter : st.inter ≡ a
  pub list : List CompId
  pub touched : IsListTouched p.model a.0 list
  pub rows : st.table.rows ≡ rows_of (map (λ (c : CompId). (c, base)) list)
  pub serial : st.table.serial ≡ 0
  pub waiting : st.waiting ≡ []
  pub sides : AreFirstSides p base inters s a (length inters) st.sides

-- the station of a plan with this number at first, among all of that plan
pub record IsNewStation (p : Planned) (base s : ℕ) (st : KeptStation) : Type 0 where
  pub stations : List InterId
  pub listed : AreStations p stations
  pub inter : InterId
  pub here : slice_get stations s ≡ Some inter
  pub first : IsFirstStation p base stations s inter st

-- What contracts of private functions say.

-- the stations before a number at first
pub record AreFirstStations (p : Planned) (base : ℕ) (inters : List InterId) (count : ℕ)
    (stations : List KeptStation) : Type 0 where
  pub each : length stations ≡ count
  pub first : (s : ℕ) (a : InterId) → s < count → slice_get inters s ≡ Some a
      → IsFirstStation p base inters s a (station_at stations s)
