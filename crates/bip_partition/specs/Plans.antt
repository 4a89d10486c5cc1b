-- The plan of a model whose interactions are parted into classes: what is touched from where, what
-- has a row in the table, what is reserved, and what is in conflict.
use Rattle.std.specs.Prelude.{◌≡◌, ◌≢◌, ◌⊎◌, ◌↔◌, ℕ, ◌<◌, List, [], length, map, true}
use Rattle.std.specs.Prelude.{Any, Contains, Some, slice_get, slice_index_or}
use Rattle.std.specs.List.Sorted.{IsStrictlyIncreasing}
use Rattle.bip_model.specs.Parties.{AreExplained, AreParties}
use Rattle.bip_model.specs.Partitions.{class_in}
use Rattle.bip_model.specs.Priorities.{inter}
use Rattle.bip_model.specs.Steps.{IsLookedAt, moves}
use Rattle.bip_model.specs.declared.messages.Request.{Request}
use Rattle.bip_model.specs.declared.numbering.ClassId.{ClassId}
use Rattle.bip_model.specs.declared.numbering.CompId.{CompId}
use Rattle.bip_model.specs.declared.numbering.InterId.{InterId}
use Rattle.bip_model.specs.declared.partitions.Partition.{Partition}
use Rattle.bip_model.specs.declared.parts.System.{System}

-- a model with classes of its interactions
pub record Planned : Type 0 where
  pub model : System
  pub classes : Partition

-- an interaction touches what it moves and what it looks at
abbrev pub Touches : System → ℕ → ℕ → Type 0
Touches m a c = (moves m a c ≡ true) ⊎ IsLookedAt m a c

-- a class touches what its interactions touch
abbrev pub ClassTouches : Planned → ℕ → ℕ → Type 0
ClassTouches p k c =
    Any (λ (a : InterId). Touches p.model a.0 c) (slice_index_or p.classes.members k [])

-- an interaction stands at a place among the members of its class
abbrev pub StandsAt : Planned → ℕ → ℕ → Type 0
StandsAt p a place =
    slice_get (slice_index_or p.classes.members (class_in p.classes a) []) place ≡ Some (inter a)

-- the components with a row in the table, which are the least set that has each one that some
-- interaction looks at, each one that two classes touch, and with each one all that an interaction
-- touches beside it
pub data IsTabled (p : Planned) : ℕ → Type 0 where
  looked_at : {a c : ℕ} → IsLookedAt p.model a c → IsTabled p c
  of_two_classes : {k l c : ℕ} → k ≢ l → ClassTouches p k c → ClassTouches p l c → IsTabled p c
  beside : {a c d : ℕ} → Touches p.model a c → Touches p.model a d → IsTabled p d → IsTabled p c

-- an interaction is reserved where it touches a component with a row; else it is local
pub record IsReserved (p : Planned) (a : ℕ) : Type 0 where
  pub comp : ℕ
  pub touched : Touches p.model a comp
  pub tabled : IsTabled p comp

-- two interactions meet at a component where both touch it, and one of them moves it
abbrev pub MeetAt : System → ℕ → ℕ → ℕ → Type 0
MeetAt m a b c = Touches m a c × Touches m b c × ((moves m a c ≡ true) ⊎ (moves m b c ≡ true))

-- two interactions are in conflict where they meet at a component
abbrev pub InConflict : System → ℕ → ℕ → Type 0
InConflict m a b = (c : ℕ) × MeetAt m a b c

-- a request fits a plan: its interaction is reserved, and of its class; it wants what that one
-- moves, sees none but what it looks at, and says enough: all that is looked at, or its reasons
pub record IsFit (p : Planned) (r : Request) : Type 0 where
  pub reserved : IsReserved p r.inter.0
  pub class : r.class.0 ≡ class_in p.classes r.inter.0
  pub parties : AreParties p.model r.inter.0 r.wants
  pub explained : AreExplained p.model r.inter.0 r.wants r.reasons

-- the list of the components that an interaction touches, in order of their numbers
pub record IsListTouched (m : System) (a : ℕ) (list : List CompId) : Type 0 where
  pub rising : IsStrictlyIncreasing (map (λ (c : CompId). c.0) list)
  pub exact : (c : ℕ) → Contains list (record { 0 = c }) ↔ Touches m a c

-- the list of the classes that touch a component, in order of their numbers
pub record IsListTouching (p : Planned) (c : ℕ) (list : List ClassId) : Type 0 where
  pub rising : IsStrictlyIncreasing (map (λ (k : ClassId). k.0) list)
  pub exact : (k : ℕ) → Contains list (record { 0 = k }) ↔ ClassTouches p k c

-- how many components have a row: as many as a list of them
pub record IsCountTabled (p : Planned) (count : ℕ) : Type 0 where
  pub list : List CompId
  pub rising : IsStrictlyIncreasing (map (λ (c : CompId). c.0) list)
  pub exact : (c : ℕ) → Contains list (record { 0 = c }) ↔ IsTabled p c
  pub counted : count ≡ length list

-- the list of the reserved interactions, in order of their numbers: station s decides for the one
-- at place s
pub record AreStations (p : Planned) (list : List InterId) : Type 0 where
  pub rising : IsStrictlyIncreasing (map (λ (a : InterId). a.0) list)
  pub exact : (a : ℕ) → Contains list (inter a) ↔ IsReserved p a

-- an interaction touches more components than one grant can want
pub record TouchesTooMany (m : System) (a : ℕ) : Type 0 where
  pub list : List CompId
  pub listed : IsListTouched m a list
  pub many : 32 < length list
