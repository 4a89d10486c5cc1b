-- What a list of grants has used up.
use Rattle.std.specs.Prelude.{◌≡◌, ◌⊎◌, ℕ, ◌<◌, ◌≤◌, List, [], ◌∷◌, Some, All, Contains}
use Rattle.std.specs.Prelude.{slice_get, ⊤}
use Rattle.bip_model.specs.declared.grants.Grant.{Grant}
use Rattle.bip_model.specs.Wants.{IsFresh, moved_in, raised}

-- the used number of each component, that a floor and a list of grants above it explain
abbrev pub used_by : (ℕ → ℕ) → List Grant → ℕ → ℕ
used_by floor [] = floor
used_by floor (g ∷ gs) = used_by (raised floor g.wants) gs

-- grants, the wants of each of which are fresh after those before it
abbrev pub IsHistory : (ℕ → ℕ) → List Grant → Type 0
IsHistory floor [] = ⊤
IsHistory floor (g ∷ gs) = IsFresh floor g.wants × IsHistory (raised floor g.wants) gs

-- no component is moved by two grants with one number
abbrev pub MovesOnceEach : List Grant → Type 0
MovesOnceEach gs =
    (i j c : ℕ) (g h : Grant) → slice_get gs i ≡ Some g → slice_get gs j ≡ Some h
    → 0 < moved_in g.wants c → moved_in g.wants c ≡ moved_in h.wants c → i ≡ j

-- the greatest of a component's floor and the numbers with which grants move it
pub record IsGreatestUsed (floor : ℕ → ℕ) (gs : List Grant) (c n : ℕ) : Type 0 where
  pub floor_within : floor c ≤ n
  pub moves_within : All (λ (g : Grant). moved_in g.wants c ≤ n) gs
  pub reached : (n ≡ floor c) ⊎ ((g : Grant) × Contains gs g × (0 < moved_in g.wants c)
      × (n ≡ moved_in g.wants c))
