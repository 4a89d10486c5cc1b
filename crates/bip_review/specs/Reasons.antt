-- Why things are as a plan says: why a component has a row in the table, through which component an
-- interaction is reserved, and for whose sake it looks at what it doesn't move.
use Rattle.std.specs.Prelude.{◌≡◌, ◌≢◌, ℕ, true}
use Rattle.bip_model.specs.Numbering.{IsLowest}
use Rattle.bip_model.specs.Priorities.{HasAbove}
use Rattle.bip_model.specs.Steps.{IsLookedAt, moves}
use Rattle.bip_model.specs.declared.parts.System.{System}
use Rattle.bip_partition.specs.Plans.{ClassTouches, IsTabled, Planned, Touches}
use Rattle.bip_review.specs.declared.reasons.RowReason.{RowReason}
use Rattle.bip_review.specs.declared.reasons.RowReason.TheVariants.{LookedAt, Shared, Beside}

-- an interaction above one moves a component: for its sake the one below looks at it
pub record MovesFromAbove (m : System) (a c b : ℕ) : Type 0 where
  pub above : HasAbove m.priorities a b
  pub moved : moves m b c ≡ true

-- an interaction touches a component with a row, through which it is reserved
pub record ReservesThrough (p : Planned) (a c : ℕ) : Type 0 where
  pub touched : Touches p.model a c
  pub tabled : IsTabled p c

-- some interaction looks at a component
abbrev pub IsSeen : System → ℕ → Type 0
IsSeen m c = (a : ℕ) × IsLookedAt m a c

-- two classes touch a component
pub record IsShared (p : Planned) (c : ℕ) : Type 0 where
  pub one : ℕ
  pub other : ℕ
  pub differ : one ≢ other
  pub one_touches : ClassTouches p one c
  pub other_touches : ClassTouches p other c

-- an interaction touches a component beside another one, which has a row
pub record StandsBeside (p : Planned) (c a d : ℕ) : Type 0 where
  pub touched : Touches p.model a c
  pub other : d ≢ c
  pub beside : Touches p.model a d
  pub tabled : IsTabled p d

-- an interaction touches a component beside one that has a row
abbrev pub Joins : Planned → ℕ → ℕ → Type 0
Joins p c a = (d : ℕ) × StandsBeside p c a d

-- why a component has a row, the first reason that applies: an interaction looks at it, the lowest
-- that does; or two classes touch it; or an interaction touches it beside one with a row, the
-- lowest that does, and the lowest such component
abbrev pub IsRowReason : Planned → ℕ → RowReason → Type 0
IsRowReason p c (LookedAt a) = IsLowest (λ b. IsLookedAt p.model b c) a.0
IsRowReason p c Shared = (¬ IsSeen p.model c) × IsShared p c
IsRowReason p c (Beside a d) =
    (¬ IsSeen p.model c) × (¬ IsShared p c) × IsLowest (Joins p c) a.0
    × IsLowest (StandsBeside p c a.0) d.0
