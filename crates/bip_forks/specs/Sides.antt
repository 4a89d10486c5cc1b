-- What a station shares with each one, kept only of those with which it shares something.
use Rattle.std.specs.Prelude.{◌≡◌, ℕ, ◌<◌, ◌≤◌, ◌==◌, List, [], ◌∷◌, map, if◌then◌else◌, length}
use Rattle.std.specs.Prelude.{◌⊎◌, IsTrue, None, false, max, slice_index_or}
use Rattle.std.proofs.Common.{zero, suc}
use Rattle.bip_bank.specs.declared.idleness.WhyIdle.{WhyIdle}
use Rattle.bip_forks.specs.Stations.{KeepsFork, KeepsRequestToken, nothing_shared}
use Rattle.bip_forks.specs.declared.shares.Side.{Side}
use Rattle.bip_forks.specs.declared.sides.Shared.{Shared}

-- what is shared with each of so many stations from a number on, in order: what is listed with its
-- number, and else nothing
abbrev pub sides_from : ℕ → ℕ → List Shared → List Side
sides_from zero at listed = []
sides_from (suc count) at [] = nothing_shared ∷ sides_from count (suc at) []
sides_from (suc count) at (x ∷ xs) =
    if x.with.0 == at then x.side ∷ sides_from count (suc at) xs
    else nothing_shared ∷ sides_from count (suc at) (x ∷ xs)

-- what is listed is in order of its numbers, which are from a number on and below another
abbrev pub AreByNumber : ℕ → ℕ → List Shared → Type 0
AreByNumber from below [] = from ≤ below
AreByNumber from below (x ∷ xs) =
    (from ≤ x.with.0) × (x.with.0 < below) × AreByNumber (suc x.with.0) below xs

-- what contracts say of sides

-- what is shared with a station, among what is with each
abbrev pub side_among : List Side → ℕ → Side
side_among sides t = slice_index_or sides t nothing_shared

-- what is listed at a place
abbrev pub nobody_shared : Shared
nobody_shared = record { with = record { 0 = 0 }; side = nothing_shared }

abbrev pub listed_at : List Shared → ℕ → Shared
listed_at xs k = slice_index_or xs k nobody_shared

-- a station's number stands at a place
abbrev pub IsListedWith : List Shared → ℕ → ℕ → Type 0
IsListedWith xs t k = (k < length xs) × ((listed_at xs k).with.0 ≡ t)

abbrev pub listed_sides : List Shared → List Side
listed_sides xs = map (λ (x : Shared). x.side) xs

-- with something else shared
abbrev pub with_other_side : Side → Shared → Shared
with_other_side side x = record x { side = side }

-- a fork is shared there, and it or its request token isn't here
abbrev pub LacksFork : Side → Type 0
LacksFork side = IsTrue side.shared × (side.fork ≡ None)

abbrev pub LacksToken : Side → Type 0
LacksToken side = IsTrue side.shared × (side.asked ≡ false)

-- a number is the next at which something holds, from one on and below a count; where there is none
-- it is the count, or the one where that is no lower. Of each that was passed over it is known why
pub record IsNextNeighbour (Passed Holds : ℕ → Type 0) (count from next : ℕ) : Type 0 where
  pub onward : from ≤ next
  pub passed : (t : ℕ) → from ≤ t → t < next → Passed t
  pub found : ((next < count) × Holds next) ⊎ (next ≡ max from count)

-- of what is listed before a place, with numbers from one on, it is known
abbrev pub ArePassed : (Side → Type 0) → List Shared → ℕ → ℕ → Type 0
ArePassed Passed xs from place =
    (k : ℕ) → k < place → from ≤ (listed_at xs k).with.0 → Passed (listed_at xs k).side

-- a place is the first at which something holds of what is listed, with numbers from one on
pub record IsFirstListed (Passed Holds : Side → Type 0) (xs : List Shared) (from : ℕ)
    (place : ℕ) : Type 0 where
  pub within : place < length xs
  pub onward : from ≤ (listed_at xs place).with.0
  pub passed : ArePassed Passed xs from place
  pub found : Holds (listed_at xs place).side

-- why a fork, or a request token, can't go
abbrev pub KeepsForkSomehow : Side → Type 0
KeepsForkSomehow side = (why : WhyIdle) × KeepsFork side why

abbrev pub KeepsTokenSomehow : Side → Type 0
KeepsTokenSomehow side = (why : WhyIdle) × KeepsRequestToken side why
