-- The text in which a plan shows itself: what is shown of each interaction, of each component and
-- of each station, when that is true of the plan, and how it is spelled. What is shown is data, and
-- only what is true can be said.
use Rattle.std.specs.Prelude.{◌≡◌, ◌≢◌, ◌↔◌, ℕ, ◌+◌, ◌<◌, List, [], ◌∷◌, ◌++◌, codes, length, map}
use Rattle.std.specs.Prelude.{All, Contains, Option, None, Some, slice_get, ⊤}
use Rattle.std.specs.List.{flat_map}
use Rattle.std.specs.List.Sorted.{IsStrictlyIncreasing}
use Rattle.bip_model.specs.Naming.{name_in}
use Rattle.bip_model.specs.Numbering.{IsLowest}
use Rattle.bip_model.specs.Partitions.{class_in, numbers_in}
use Rattle.bip_model.specs.Parts.{components_in}
use Rattle.bip_model.specs.Priorities.{inter}
use Rattle.bip_model.specs.Steps.{IsListLookedAt, participants_of}
use Rattle.bip_model.specs.Texts.{line_feed, spaced}
use Rattle.bip_model.specs.declared.numbering.ClassId.{ClassId}
use Rattle.bip_model.specs.declared.numbering.CompId.{CompId}
use Rattle.bip_model.specs.declared.numbering.InterId.{InterId}
use Rattle.bip_model.specs.declared.parts.System.{System}
use Rattle.bip_partition.specs.Plans.{AreStations, InConflict, IsListTouching, IsReserved, IsTabled}
use Rattle.bip_partition.specs.Plans.{Planned}
use Rattle.bip_review.specs.Reasons.{IsRowReason, MovesFromAbove, ReservesThrough}
use Rattle.bip_review.specs.declared.reasons.RowReason.{RowReason}
use Rattle.bip_review.specs.declared.reasons.RowReason.TheVariants.{LookedAt, Shared, Beside}

-- a component that is looked at, and the interaction for whose sake
pub record Look : Type 0 where
  pub comp : CompId
  pub cause : InterId

-- what is shown of an interaction: its class, what it moves, what it looks at, and through which
-- component it is reserved
pub record InteractionShown : Type 0 where
  pub class : ℕ
  pub moved : List ℕ
  pub looks : List Look
  pub reserving : Option CompId

-- what is shown of a component: why it has a row, and which classes touch it
pub record ComponentShown : Type 0 where
  pub reason : Option RowReason
  pub classes : List ClassId

-- what is shown of a station: the interactions of those that are in conflict with it
pub record StationShown : Type 0 where
  pub conflicts : List InterId

-- what an interaction looks at, in order of number, each for the sake of the lowest interaction
-- above it that moves it
pub record AreLooks (m : System) (a : ℕ) (looks : List Look) : Type 0 where
  pub listed : IsListLookedAt m a (map (λ (look : Look). look.comp) looks)
  pub causes : All (λ (look : Look). IsLowest (MovesFromAbove m a look.comp.0) look.cause.0) looks

-- an interaction is reserved through the lowest component with a row that it touches; else it is
-- local
abbrev pub IsReserving : Planned → ℕ → Option CompId → Type 0
IsReserving p a None = ¬ IsReserved p a
IsReserving p a (Some c) = IsLowest (ReservesThrough p a) c.0

-- a component has a row for a reason, or has none
abbrev pub IsStanding : Planned → ℕ → Option RowReason → Type 0
IsStanding p c None = ¬ IsTabled p c
IsStanding p c (Some reason) = IsRowReason p c reason

-- an interaction is in conflict with that of another station: with forks, the two share one
pub record ConflictsWith (p : Planned) (a b : ℕ) : Type 0 where
  pub other : b ≢ a
  pub station : IsReserved p b
  pub conflict : InConflict p.model a b

-- the list of the interactions of all stations that are in conflict with that of one, in order of
-- their numbers
pub record IsListConflicting (p : Planned) (a : ℕ) (list : List InterId) : Type 0 where
  pub rising : IsStrictlyIncreasing (numbers_in list)
  pub exact : (b : ℕ) → Contains list (inter b) ↔ ConflictsWith p a b

-- what is shown of an interaction is true
pub record IsInteractionShown (p : Planned) (a : ℕ) (shown : InteractionShown) : Type 0 where
  pub class : shown.class ≡ class_in p.classes a
  pub moved : shown.moved ≡ components_in (participants_of p.model a)
  pub looks : AreLooks p.model a shown.looks
  pub reserving : IsReserving p a shown.reserving

-- what is shown of a component is true
pub record IsComponentShown (p : Planned) (c : ℕ) (shown : ComponentShown) : Type 0 where
  pub reason : IsStanding p c shown.reason
  pub classes : IsListTouching p c shown.classes

-- what is shown of the station of an interaction is true, and it isn't alone
pub record IsStationShown (p : Planned) (a : ℕ) (shown : StationShown) : Type 0 where
  pub conflicts : IsListConflicting p a shown.conflicts
  pub some : 0 < length shown.conflicts

-- names, each behind a space
abbrev pub names_text : List (List ℕ) → List ℕ → List ℕ
names_text names numbers = flat_map (λ n. spaced (name_in names n)) numbers

-- ` looks A for z`
abbrev pub look_text : System → Look → List ℕ
look_text m look =
    codes " looks" ++ (spaced (name_in m.component_names look.comp.0)
    ++ (codes " for" ++ spaced (name_in m.interaction_names look.cause.0)))

-- ` reserved through R` or ` local`
abbrev pub reserving_text : System → Option CompId → List ℕ
reserving_text m None = codes " local"
reserving_text m (Some c) = codes " reserved through" ++ spaced (name_in m.component_names c.0)

-- ` class P moves A R`
abbrev pub moved_text : Planned → ℕ → List ℕ → List ℕ
moved_text p class moved =
    codes " class" ++ (spaced (name_in p.classes.names class)
    ++ (codes " moves" ++ names_text p.model.component_names moved))

-- `interaction x class P moves A R reserved through R`
abbrev pub interaction_text : Planned → ℕ → InteractionShown → List ℕ
interaction_text p a shown =
    codes "interaction" ++ (spaced (name_in p.model.interaction_names a)
    ++ (moved_text p shown.class shown.moved
    ++ (flat_map (look_text p.model) shown.looks
    ++ (reserving_text p.model shown.reserving ++ line_feed ∷ []))))

-- the names of classes, each behind a space
abbrev pub classes_text : Planned → List ClassId → List ℕ
classes_text p classes = names_text p.classes.names (map (λ (k : ClassId). k.0) classes)

-- ` looked at by y`, ` touched from P Q` or ` beside A in v`
abbrev pub reason_text : Planned → List ClassId → RowReason → List ℕ
reason_text p classes (LookedAt a) =
    codes " looked at by" ++ spaced (name_in p.model.interaction_names a.0)
reason_text p classes Shared = codes " touched from" ++ classes_text p classes
reason_text p classes (Beside a d) =
    codes " beside" ++ (spaced (name_in p.model.component_names d.0)
    ++ (codes " in" ++ spaced (name_in p.model.interaction_names a.0)))

-- ` untabled`, or ` tabled` with a reason
abbrev pub standing_text : Planned → List ClassId → Option RowReason → List ℕ
standing_text p classes None = codes " untabled"
standing_text p classes (Some reason) = codes " tabled" ++ reason_text p classes reason

-- `component R tabled touched from P Q`
abbrev pub component_text : Planned → ℕ → ComponentShown → List ℕ
component_text p c shown =
    codes "component" ++ (spaced (name_in p.model.component_names c)
    ++ (standing_text p shown.classes shown.reason ++ line_feed ∷ []))

-- `station x conflicts y z`
abbrev pub station_text : Planned → ℕ → StationShown → List ℕ
station_text p a shown =
    codes "station" ++ (spaced (name_in p.model.interaction_names a)
    ++ (codes " conflicts"
    ++ (names_text p.model.interaction_names (numbers_in shown.conflicts) ++ line_feed ∷ [])))

-- a line of an interaction spells what is true of it
pub record IsInteractionLine (p : Planned) (a : ℕ) (line : List ℕ) : Type 0 where
  pub shown : InteractionShown
  pub holds : IsInteractionShown p a shown
  pub spelled : line ≡ interaction_text p a shown

-- a line of a component spells what is true of it
pub record IsComponentLine (p : Planned) (c : ℕ) (line : List ℕ) : Type 0 where
  pub shown : ComponentShown
  pub holds : IsComponentShown p c shown
  pub spelled : line ≡ component_text p c shown

-- a line of the station of an interaction spells what is true of it
pub record IsStationLine (p : Planned) (a : ℕ) (line : List ℕ) : Type 0 where
  pub shown : StationShown
  pub holds : IsStationShown p a shown
  pub spelled : line ≡ station_text p a shown

-- the line of the station with a number, of all stations
abbrev pub IsLineOfStation : Planned → List InterId → ℕ → List ℕ → Type 0
IsLineOfStation p stations s line =
    (a : InterId) × (slice_get stations s ≡ Some a) × IsStationLine p a.0 line

-- a text and behind it a line for each of so many numbers in turn, and nothing else
pub data AddsLines (IsLine : ℕ → List ℕ → Type 0) (text : List ℕ) : ℕ → List ℕ → Type 0 where
  none : AddsLines IsLine text 0 text
  one_more : {n : ℕ} {more line : List ℕ}
      → AddsLines IsLine text n more → IsLine n line → AddsLines IsLine text (n + 1) (more ++ line)

-- a text and behind it a line for each station in turn, and nothing else
pub record AddsStations (p : Planned) (old new : List ℕ) : Type 0 where
  pub stations : List InterId
  pub listed : AreStations p stations
  pub lines : AddsLines (IsLineOfStation p stations) old (length stations) new

-- the text of a plan: a line for each interaction, then one for each component, then one for each
-- station, and nothing else
pub record IsPlanText (p : Planned) (text : List ℕ) : Type 0 where
  pub front : List ℕ
  pub middle : List ℕ
  pub interactions : AddsLines (IsInteractionLine p) [] (length p.model.interactions) front
  pub components : AddsLines (IsComponentLine p) front (length p.model.components) middle
  pub stations : AddsStations p middle text

-- What contracts of private functions say.

-- a line more
pub record AddsLine (IsLine : List ℕ → Type 0) (old new : List ℕ) : Type 0 where
  pub line : List ℕ
  pub holds : IsLine line
  pub added : new ≡ old ++ line

-- what an interaction looks at is added
pub record AddsLooks (m : System) (a : ℕ) (old new : List ℕ) : Type 0 where
  pub looks : List Look
  pub holds : AreLooks m a looks
  pub added : new ≡ old ++ flat_map (look_text m) looks

-- the interactions of the stations that are in conflict with that of one are added
pub record AddsConflicts (p : Planned) (a : ℕ) (old new : List ℕ) : Type 0 where
  pub conflicts : List InterId
  pub holds : IsListConflicting p a conflicts
  pub added : new ≡ old ++ names_text p.model.interaction_names (numbers_in conflicts)

-- what a reason names is in the plan
abbrev pub IsOfPlan : Planned → RowReason → Type 0
IsOfPlan p (LookedAt a) = a.0 < length p.model.interactions
IsOfPlan p Shared = ⊤
IsOfPlan p (Beside a d) =
    (a.0 < length p.model.interactions) × (d.0 < length p.model.components)
