-- What contracts of private functions say: the lists and the sets that a plan keeps.
use Rattle.std.specs.Prelude.{◌≡◌, ◌⊎◌, ◌↔◌, ℕ, ◌<◌, Bool, true, not, List, [], length, map}
use Rattle.std.specs.Prelude.{Contains, All, Option, None, IsTrue, find, slice_get, slice_index_or}
use Rattle.std.specs.Prelude.{if◌then◌else◌}
use Rattle.std.specs.Option.{option_map_or}
use Rattle.std.specs.List.{list_any}
use Rattle.std.specs.List.Sorted.{IsStrictlyIncreasing}
use Rattle.bip_model.specs.Partitions.{AreClassesOf, IsClasses, class_in}
use Rattle.bip_model.specs.Parts.{IsSystem}
use Rattle.bip_model.specs.Priorities.{inter}
use Rattle.bip_model.specs.Sets.{has}
use Rattle.bip_model.specs.Steps.{IsLookedAt, moves}
use Rattle.bip_model.specs.declared.numbering.ClassId.{ClassId}
use Rattle.bip_model.specs.declared.numbering.CompId.{CompId}
use Rattle.bip_model.specs.declared.numbering.InterId.{InterId}
use Rattle.bip_model.specs.declared.parts.System.{System}
use Rattle.bip_partition.specs.Plans.{AreStations, ClassTouches, IsListTouched, IsListTouching}
use Rattle.bip_partition.specs.Plans.{IsTabled, Planned, StandsAt, Touches, TouchesTooMany}
use Rattle.bip_partition.specs.declared.footprints.Footprint.{Footprint}
use Rattle.bip_partition.specs.declared.tables.Tables.{Tables}

-- the list of what has a property below a bound, in order of number
pub record IsListBelow {X : Type 0} (number : X → ℕ) (make : ℕ → X) (P : ℕ → Type 0) (bound : ℕ)
    (list : List X) : Type 0 where
  pub rising : IsStrictlyIncreasing (map number list)
  pub exact : (n : ℕ) → Contains list (make n) ↔ ((n < bound) × P n)

-- the component of a number
abbrev pub comp : ℕ → CompId
comp c = record { 0 = c }

-- how many components an interaction touches
pub record IsCountTouched (m : System) (a count : ℕ) : Type 0 where
  pub list : List CompId
  pub listed : IsListTouched m a list
  pub counted : count ≡ length list

-- for each interaction in turn the list of what it touches
pub record AreListsTouched (m : System) (count : ℕ) (lists : List (List CompId)) : Type 0 where
  pub each : length lists ≡ count
  pub list : (a : ℕ) → a < count → IsListTouched m a (slice_index_or lists a [])

-- for each component in turn the list of the classes that touch it
pub record AreListsTouching (p : Planned) (count : ℕ) (lists : List (List ClassId)) : Type 0 where
  pub each : length lists ≡ count
  pub list : (c : ℕ) → c < count → IsListTouching p c (slice_index_or lists c [])

-- a component has a row whatever is beside it: more than one class touches it, as these are listed
-- for each, or some interaction looks at it
abbrev pub IsSeed : System → List (List ClassId) → ℕ → Type 0
IsSeed m touching c =
    (1 < length (slice_index_or touching c [])) ⊎ ((a : ℕ) × IsLookedAt m a c)

-- the set of the first ones of these, below a bound
abbrev pub AreSeedsBelow : System → List (List ClassId) → ℕ → ℕ → Type 0
AreSeedsBelow m touching bound set =
    (c : ℕ) → (has set c ≡ true) ↔ ((c < bound) × IsSeed m touching c)

-- the set of the components with a row
abbrev pub AreTabled : Planned → ℕ → Type 0
AreTabled p set = (c : ℕ) → IsTrue (has set c) ↔ IsTabled p c

-- one interaction touches both components; each interaction has a list of those that it touches
pub record AreTouched (touches : List (List CompId)) (c d : ℕ) : Type 0 where
  pub touched : List CompId
  pub interaction : Contains touches touched
  pub first : Contains touched (comp c)
  pub second : Contains touched (comp d)

-- a component is in a set, or an interaction touches it beside one that is linked to the set
pub data IsLinked (touches : List (List CompId)) (set : ℕ) : ℕ → Type 0 where
  inside : {c : ℕ} → IsTrue (has set c) → IsLinked touches set c
  shared : {c d : ℕ} → AreTouched touches c d → IsLinked touches set d → IsLinked touches set c

-- the first component of a list that is outside of a set, where another is inside
abbrev pub outside_beside : ℕ → List CompId → Option CompId
outside_beside set touched =
    if list_any (λ (c : CompId). has set c.0) touched
    then find (λ (c : CompId). not (has set c.0)) touched
    else None

-- whether a list has a component of a set
abbrev pub meets : ℕ → List CompId → Bool
meets set touched = list_any (λ (c : CompId). has set c.0) touched

-- components that a set of 64 bits can have
abbrev pub HaveBits : List CompId → Type 0
HaveBits touched = All (λ (c : CompId). c.0 < 64) touched

-- the list of those below a bound whose lists have a component of a set
abbrev pub IsListReservedBy : List (List CompId) → ℕ → ℕ → List InterId → Type 0
IsListReservedBy touches set bound list =
    IsListBelow (λ (a : InterId). a.0) inter
    (λ a. IsTrue (meets set (slice_index_or touches a []))) bound list

-- what is kept of an interaction: the sets of what it touches and moves, its class, and its place
-- there
pub record IsFootprint (p : Planned) (a : ℕ) (f : Footprint) : Type 0 where
  pub touched : (c : ℕ) → IsTrue (has f.touched c) ↔ Touches p.model a c
  pub moved : (c : ℕ) → has f.moved c ≡ moves p.model a c
  pub class : f.class.0 ≡ class_in p.classes a
  pub place : StandsAt p a f.place

-- what is kept of each interaction in turn
pub record AreFootprints (p : Planned) (count : ℕ) (kept : List Footprint) : Type 0 where
  pub each : length kept ≡ count
  pub one : (a : ℕ) (none : Footprint) → a < count
      → IsFootprint p a (slice_index_or kept a none)

-- whether one of some interactions touches a component, by what is kept of each
abbrev pub touched_among : List Footprint → List InterId → ℕ → Bool
touched_among kept members c =
    list_any
    (λ (a : InterId). has (option_map_or (λ f. f.touched) (slice_get kept a.0) 0) c)
    members

-- for each of the first classes in turn the set of what its members touch
pub record AreSetsTouched (kept : List Footprint) (classes : List (List InterId)) (count : ℕ)
    (sets : List ℕ) : Type 0 where
  pub each : length sets ≡ count
  pub set : (k : ℕ) → k < count → (c : ℕ)
      → has (slice_index_or sets k 0) c ≡ touched_among kept (slice_index_or classes k []) c

-- for each class in turn the set of the components that it touches
pub record AreClassSets (p : Planned) (sets : List ℕ) : Type 0 where
  pub each : length sets ≡ length p.classes.members
  pub set : (k : ℕ) → k < length sets
      → (c : ℕ) → IsTrue (has (slice_index_or sets k 0) c) ↔ ClassTouches p k c

-- all that a plan keeps
pub record ArePlanTables (p : Planned) (t : Tables) : Type 0 where
  pub lists_touched : AreListsTouched p.model (length p.model.interactions) t.touches
  pub lists_touching : AreListsTouching p (length p.model.components) t.touching
  pub rows : AreTabled p t.tabled
  pub stations : AreStations p t.stations
  pub footprints : AreFootprints p (length p.model.interactions) t.footprints
  pub class_sets : AreClassSets p t.class_sets

-- a valid model that is parted, of which no interaction touches too many components, with what is
-- kept
pub record IsPlan (p : Planned) (t : Tables) : Type 0 where
  pub valid : IsSystem p.model
  pub parted : IsClasses p.classes
  pub of_model : AreClassesOf p.model p.classes
  pub few : (a : ℕ) → ¬ TouchesTooMany p.model a
  pub tables : ArePlanTables p t
