-- Which interactions can be drawn where a run stands, and the grants of them that look at all that
-- they may.
use Rattle.std.specs.Prelude.{◌≡◌, ◌⊎◌, ◌<◌, ◌≤◌, ◌↔◌, Bool, Contains, List, None, Option, Some}
use Rattle.std.specs.Prelude.{false, get_or, map, nat_lt, true, ⊤, ℕ, ◌+◌, if◌then◌else◌}
use Rattle.std.specs.List.Sorted.{IsStrictlyIncreasing}
use Rattle.bip_model.specs.Numbering.{last_number}
use Rattle.bip_model.specs.Priorities.{inter}
use Rattle.bip_model.specs.Steps.{MayRun, moves}
use Rattle.bip_model.specs.Wants.{IsWants}
use Rattle.bip_model.specs.declared.grants.Grant.{Grant}
use Rattle.bip_model.specs.declared.numbering.CompId.{CompId}
use Rattle.bip_model.specs.declared.numbering.InterId.{InterId}
use Rattle.bip_model.specs.declared.parts.System.{System}
use Rattle.bip_model.specs.declared.wants.Role.TheVariants.{Moved, Seen}
use Rattle.bip_model.specs.declared.wants.Want.{Want}
use Rattle.bip_partition.specs.Plans.{InConflict, Touches}
use Rattle.bip_partition.specs.Tables.{IsListBelow}
use Rattle.bip_replay.specs.Expected.{IsExpectedGrant}
use Rattle.bip_replay.specs.Runs.{Standing}

-- an interaction can be drawn: it may run, and each component that it moves or looks at has a next
-- move
pub record CanBeDrawn (p : Standing) (a : ℕ) : Type 0 where
  pub may : MayRun p.model p.state a
  pub unspent : (c : ℕ) → Touches p.model a c → p.used c < last_number

-- the list of those that can, in order of their numbers
pub record AreDrawable (p : Standing) (list : List InterId) : Type 0 where
  pub rising : IsStrictlyIncreasing (map (λ (a : InterId). a.0) list)
  pub exact : (a : ℕ) → Contains list (inter a) ↔ CanBeDrawn p a

-- the grant of an interaction that sees all that it looks at: it wants each of its parties, by the
-- number of its next move
pub record IsFullGrant (p : Standing) (a : ℕ) (g : Grant) : Type 0 where
  pub expected : IsExpectedGrant p a g
  pub wants : IsWants g.wants

-- What contracts of private functions say.

-- of each interaction, by its number, whether it can be drawn
abbrev pub TellDrawable : Standing → List Bool → Type 0
TellDrawable p choices = (a : ℕ) → (get_or choices a false ≡ true) ↔ CanBeDrawn p a

-- where this interaction was granted, it may have changed that another one can be drawn; or any,
-- where none was
abbrev pub IsChanged : System → Option InterId → ℕ → Type 0
IsChanged m None a = ⊤
IsChanged m (Some g) a = InConflict m g.0 a

-- what may have changed of an interaction is asked anew, and else it stays
abbrev pub IsRenewedAt : System → Standing → Option InterId → List Bool → List Bool → ℕ → Type 0
IsRenewedAt m p granted old new a =
    (IsChanged m granted a × ((get_or new a false ≡ true) ↔ CanBeDrawn p a))
    ⊎ ((¬ IsChanged m granted a) × (get_or new a false ≡ get_or old a false))

-- and so it is of the first so many; of the others it stays
pub record AreRenewed (m : System) (p : Standing) (granted : Option InterId) (n : ℕ)
    (old new : List Bool) : Type 0 where
  pub each : (a : ℕ) → a < n → IsRenewedAt m p granted old new a
  pub others : (a : ℕ) → n ≤ a → get_or new a false ≡ get_or old a false

-- the list of those of so many interactions that can be, in order of their numbers
abbrev pub IsListChosen : List Bool → ℕ → List InterId → Type 0
IsListChosen choices n list =
    IsListBelow (λ (a : InterId). a.0) inter (λ a. get_or choices a false ≡ true) n list

-- whether a component has a next move
abbrev pub is_unspent : (ℕ → ℕ) → CompId → Bool
is_unspent used c = nat_lt (used c.0) last_number

-- what an interaction wants of a component: the number of its next move
abbrev pub want_next : Standing → ℕ → CompId → Want
want_next p a c =
    record {
      number = p.used c.0 + 1;
      comp = c;
      role = if moves p.model a c.0 then Moved else Seen;
    }
