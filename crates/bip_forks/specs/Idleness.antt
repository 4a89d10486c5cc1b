-- Which steps of stations are idle, by number.
use Rattle.std.specs.Prelude.{ℕ, ◌<◌, ◌≤◌, ◌*◌, ◌/◌, ◌%◌, List, length}
use Rattle.bip_bank.specs.Steps.{step_at}
use Rattle.bip_bank.specs.declared.idleness.WhyIdle.{WhyIdle}
use Rattle.bip_forks.specs.Kept.{ForkParts, IsIdleHere, station_at}
use Rattle.bip_forks.specs.Stations.{AsksNothing, IsUnserved, KeepsFork, KeptStation, side_with}
use Rattle.bip_forks.specs.declared.exchanges.Exchange.{Exchange}
use Rattle.bip_forks.specs.declared.exchanges.Exchange.TheVariants.{Ask, Pass}

-- of the steps of stations, by number, those from one on, below another one, are idle
abbrev pub AreIdleHere : ForkParts → ℕ → ℕ → Type 0
AreIdleHere p from to =
    (i : ℕ) → from ≤ i → i < to
    → (why : WhyIdle) × IsIdleHere p (step_at (length p.stations) i) why

-- a station can't be served
abbrev pub IsUnservedHere : List KeptStation → ℕ → Type 0
IsUnservedHere stations s = (why : WhyIdle) × IsUnserved (station_at stations s) why

-- a station makes no such exchange with another one
abbrev pub IsIdleExchange : Exchange → KeptStation → ℕ → Type 0
IsIdleExchange Pass s t = (why : WhyIdle) × KeepsFork (side_with s t) why
IsIdleExchange Ask s t = (why : WhyIdle) × AsksNothing s t why

abbrev pub IsIdleWith : Exchange → List KeptStation → ℕ → ℕ → Type 0
IsIdleWith exchange stations s t = IsIdleExchange exchange (station_at stations s) t

-- of the pairs of so many stations, by number, those from one on, below another one, are idle
abbrev pub AreIdlePairs : (ℕ → ℕ → Type 0) → ℕ → ℕ → ℕ → Type 0
AreIdlePairs Idle n from to =
    (k : ℕ) → from ≤ k → k < to → k < n * n → Idle (k / n) (k % n)
