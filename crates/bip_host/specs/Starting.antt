-- How the nodes of a host begin.
use Rattle.std.specs.Prelude.{◌≡◌, ◌≢◌, ℕ, ◌<◌, zero, suc, IfSome, List, None, Option, Some}
use Rattle.std.specs.Prelude.{is_some, length, slice_get, true}
use Rattle.bip_bank.specs.Sharing.{IsNextStation}
use Rattle.bip_bank.specs.declared.banks.StationId.{StationId}
use Rattle.bip_forks.specs.Opening.{IsNewStation}
use Rattle.bip_host.specs.Classes.{IsFirstClassActor}
use Rattle.bip_host.specs.Components.{IsFirstComponentActor}
use Rattle.bip_host.specs.Rings.{IsFirstRingActor}
use Rattle.bip_host.specs.Tables.{Form, form_of, most_of}
use Rattle.bip_host.specs.declared.classes.ClassActor.{ClassActor}
use Rattle.bip_host.specs.declared.components.ComponentActor.{ComponentActor}
use Rattle.bip_host.specs.declared.forks.ForkActor.{ForkActor}
use Rattle.bip_host.specs.declared.forks.ForkStage.TheVariants.{Resting}
use Rattle.bip_host.specs.declared.hands.ClassHands.{ClassHands}
use Rattle.bip_host.specs.declared.hands.ComponentHands.{ComponentHands}
use Rattle.bip_host.specs.declared.hands.StationHands.{StationHands}
use Rattle.bip_host.specs.declared.hosts.Kind.{Kind}
use Rattle.bip_host.specs.declared.hosts.Kind.TheVariants as kind
use Rattle.bip_host.specs.declared.rings.RingActor.{RingActor}
use Rattle.bip_host.specs.declared.settled.Settled.{Settled}
use Rattle.bip_model.specs.declared.numbering.InterId.{InterId}
use Rattle.bip_model.specs.declared.parts.System.{System}
use Rattle.bip_partition.specs.Plans.{AreStations, InConflict, Planned}
use Rattle.bip_ring.specs.declared.tokens.Token.{Token}

-- the station with a number decides for this interaction
abbrev pub IsStationAt : Planned → ℕ → InterId → Type 0
IsStationAt p s a =
    (stations : List InterId) × AreStations p stations × (slice_get stations s ≡ Some a)

-- two stations share a fork: they are two, and their interactions are in conflict
pub record AreNeighbours (m : System) (stations : List InterId) (s t : ℕ) : Type 0 where
  pub apart : s ≢ t
  pub conflict : (a b : InterId) × (slice_get stations s ≡ Some a) × (slice_get stations t ≡ Some b)
      × InConflict m a.0 b.0

-- of the first so many stations those with which one shares a fork: these, and all of them
pub record AreNeighboursBelow (m : System) (stations : List InterId) (s n : ℕ)
    (list : List StationId) : Type 0 where
  pub each : (k : ℕ) (t : StationId) → slice_get list k ≡ Some t → AreNeighbours m stations s t.0
  pub all : (t : ℕ) → t < n → AreNeighbours m stations s t
      → (k : ℕ) × (slice_get list k ≡ Some (record { 0 = t }))

-- the stations of a plan with which one shares a fork
abbrev pub AreNeighboursOf : Planned → ℕ → List StationId → Type 0
AreNeighboursOf p s list =
    (stations : List InterId) × AreStations p stations
    × AreNeighboursBelow p.model stations s (length stations) list

-- the actor of a plan's station with a number at first, whose table and forks are those of a new
-- station of the plan
pub record IsForkActor (p : Planned) (s : ℕ) (a : ForkActor) : Type 0 where
  pub neighbours : AreNeighboursOf p s a.neighbours.items
  pub station : IfSome a.station (λ held. IsNewStation p 0 s held.decider)
  pub stage : a.stage ≡ Resting

-- how many stations a host of a plan and a kind has: none with one table
abbrev pub IsStationCount : Planned → Kind → ℕ → Type 0
IsStationCount p kind.Central n = n ≡ 0
IsStationCount p kind.Ring n =
    (stations : List InterId) × AreStations p stations × (n ≡ length stations)
IsStationCount p kind.Forks n =
    (stations : List InterId) × AreStations p stations × (n ≡ length stations)

-- the nodes of components, each at its own place: it is new
pub record AreComponentNodes (p : Planned) (nodes : List (ComponentActor × ComponentHands)) : Type 0
  where
    pub each : (k : ℕ) (node : ComponentActor × ComponentHands) → slice_get nodes k ≡ Some node
        → IsFirstComponentActor p k node.0

module _ {L G : Type 0} where
  -- the nodes of classes, each at its own place: it is new, and asks a third layer of this form
  pub record AreClassNodes (p : Planned) (f : Form) (nodes : List (ClassActor × ClassHands L G))
      : Type 0 where
    pub each : (k : ℕ) (node : ClassActor × ClassHands L G) → slice_get nodes k ≡ Some node
        → IsFirstClassActor p k (most_of f) node.0
    pub form : (k : ℕ) (node : ClassActor × ClassHands L G) → slice_get nodes k ≡ Some node
        → form_of node.1.layer ≡ f

  -- each class asks a third layer of this form
  pub record HaveForm (form : Form) (nodes : List (ClassActor × ClassHands L G)) : Type 0 where
    pub each : (k : ℕ) (node : ClassActor × ClassHands L G) → slice_get nodes k ≡ Some node
        → form_of node.1.layer ≡ form

-- the nodes of stations with forks, each at its own place: it is new
pub record AreForkNodes (p : Planned) (nodes : List (ForkActor × StationHands)) : Type 0 where
  pub each : (k : ℕ) (node : ForkActor × StationHands) → slice_get nodes k ≡ Some node
      → IsForkActor p k node.0

-- at first the token is at the first station alone
abbrev pub IsTokenAt : ℕ → Option (Settled Token) → Type 0
IsTokenAt zero held = is_some held ≡ true
IsTokenAt (suc k) held = held ≡ None

-- the actor of a station of a ring of so many at first: it hands on to the one behind it
pub record IsRingActor (count k : ℕ) (a : RingActor) : Type 0 where
  pub behind : IsNextStation count k a.next.0
  pub first : IsFirstRingActor a.next a.token a
  pub token : IsTokenAt k a.token

-- the nodes of the stations of a ring of so many, each at its own place: it is new
pub record AreRingNodes (count : ℕ) (nodes : List (RingActor × StationHands)) : Type 0 where
  pub each : (k : ℕ) (node : RingActor × StationHands) → slice_get nodes k ≡ Some node
      → IsRingActor count k node.0
