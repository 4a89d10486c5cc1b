-- What the definitions mean, in the subject's own words: laws that a reviewer reads.
use Rattle.std.specs.Prelude.{◌≡◌, ◌≢◌, ◌↔◌, ℕ, ◌<◌, List, [], Bool, IsTrue, length, true}
use Rattle.std.specs.Prelude.{Contains}
use Rattle.std.specs.Prelude.{slice_index_or}
use Rattle.bip_model.specs.Partitions.{AreClassesOf, IsClasses, class_in, is_member}
use Rattle.bip_model.specs.Parts.{IsSystem}
use Rattle.bip_model.specs.Priorities.{inter}
use Rattle.bip_model.specs.States.{State}
use Rattle.bip_model.specs.Steps.{IsLookedAt, MayRun, after, moves}
use Rattle.bip_model.specs.declared.numbering.InterId.{InterId}
use Rattle.bip_model.specs.declared.parts.System.{System}
use Rattle.bip_partition.specs.Plans.{AreStations, ClassTouches, InConflict, IsReserved, IsTabled}
use Rattle.bip_partition.specs.Plans.{Planned}
use Rattle.bip_partition.specs.Plans.{Touches}

-- a valid model with a partition of its interactions
pub record IsPlanned (p : Planned) : Type 0 where
  pub valid : IsSystem p.model
  pub parted : IsClasses p.classes
  pub of_model : AreClassesOf p.model p.classes

-- each interaction of a model moves something
abbrev pub EachMoves : Type 0
EachMoves =
    (m : System) → IsSystem m → (a : ℕ) → a < length m.interactions
    → (c : ℕ) × (moves m a c ≡ true)

-- an interaction stands in its class, and in no other
abbrev pub StandsInItsClass : Type 0
StandsInItsClass =
    (p : Planned) → IsPlanned p → (a : ℕ) → a < length p.model.interactions
    → Contains (slice_index_or p.classes.members (class_in p.classes a) []) (inter a)
    × ((k : ℕ) → Contains (slice_index_or p.classes.members k []) (inter a)
    → k ≡ class_in p.classes a)

-- a reserved interaction touches only components with a row, a local one touches none of them
abbrev pub ReservedMeansAll : Type 0
ReservedMeansAll =
    (p : Planned) (a c : ℕ) → IsReserved p a → Touches p.model a c → IsTabled p c

abbrev pub LocalMeansNone : Type 0
LocalMeansNone =
    (p : Planned) (a c : ℕ) → (¬ IsReserved p a) → Touches p.model a c → ¬ IsTabled p c

-- so a local interaction looks at nothing
abbrev pub LocalLooksAtNothing : Type 0
LocalLooksAtNothing =
    (p : Planned) (a c : ℕ) → (¬ IsReserved p a) → ¬ IsLookedAt p.model a c

-- two interactions that touch a component without a row are of one class
abbrev pub OneClassWithoutRow : Type 0
OneClassWithoutRow =
    (p : Planned) → IsPlanned p → (a b c : ℕ) → Touches p.model a c → Touches p.model b c
    → (¬ IsTabled p c) → class_in p.classes a ≡ class_in p.classes b

-- so what touches anything that a local interaction touches is of its class
abbrev pub LocalStaysInItsClass : Type 0
LocalStaysInItsClass =
    (p : Planned) → IsPlanned p → (a b c : ℕ) → (¬ IsReserved p a) → Touches p.model a c
    → Touches p.model b c → class_in p.classes a ≡ class_in p.classes b

-- what an interaction touches its class touches
abbrev pub TouchesWithItsClass : Type 0
TouchesWithItsClass =
    (p : Planned) → IsPlanned p → (a c : ℕ) → Touches p.model a c
    → ClassTouches p (class_in p.classes a) c

-- whether an interaction is reserved, by the list of those that are
abbrev pub ReservedAreListed : Type 0
ReservedAreListed =
    (p : Planned) (list : List InterId) → AreStations p list
    → (a : ℕ) → IsTrue (is_member a list) ↔ IsReserved p a

-- a set of components that has what is looked at, what two classes touch, and with each one all
-- that an interaction touches beside it
pub record IsClosed (p : Planned) (P : ℕ → Type 0) : Type 0 where
  pub looked_at : (a c : ℕ) → IsLookedAt p.model a c → P c
  pub of_two_classes : (k l c : ℕ) → k ≢ l → ClassTouches p k c → ClassTouches p l c → P c
  pub beside : (a c d : ℕ) → Touches p.model a c → Touches p.model a d → P d → P c

-- the components with a row are such a set, and the least
abbrev pub RowsAreClosed : Type 0
RowsAreClosed = (p : Planned) → IsClosed p (IsTabled p)

abbrev pub RowsAreLeast : Type 0
RowsAreLeast =
    (p : Planned) (set : ℕ → Bool) → IsClosed p (λ c. set c ≡ true)
    → (c : ℕ) → IsTabled p c → set c ≡ true

-- conflict goes both ways
abbrev pub ConflictsBothWays : Type 0
ConflictsBothWays = (m : System) (a b : ℕ) → InConflict m a b → InConflict m b a

-- either of two interactions may run after the other, and both orders lead to one state
pub record RunInEitherOrder (m : System) (s : State) (a b : ℕ) : Type 0 where
  pub second : MayRun m (after m s a) b
  pub first : MayRun m (after m s b) a
  pub end : after m (after m s a) b ≡ after m (after m s b) a

-- interactions that may run and aren't in conflict run in either order
abbrev pub RunApart : Type 0
RunApart =
    (m : System) (s : State) (a b : ℕ) → MayRun m s a → MayRun m s b → (¬ InConflict m a b)
    → RunInEitherOrder m s a b
