use Rattle.std.proofs.Common.{◌≡◌, ◌<◌, ℕ}
use Rattle.bip_forks.specs.Kept.{station_at}
use Rattle.bip_forks.proofs.forks.place_of.Given as goal

abbrev pub invariant-loop-place : goal.invariant-loop-place
invariant-loop-place l = (s : ℕ) → s < l.place → (station_at l.stations s).inter.0 ≡ l.inter.0 → ⊥
