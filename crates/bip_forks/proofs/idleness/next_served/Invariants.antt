use Rattle.std.proofs.Common.{ℕ, ◌≤◌, ◌<◌}
use Rattle.bip_forks.specs.Idleness.{IsUnservedHere}
use Rattle.bip_forks.proofs.idleness.next_served.Given as goal

abbrev pub invariant-loop-place : goal.invariant-loop-place
invariant-loop-place l = (s : ℕ) → l.from ≤ s → s < l.place → IsUnservedHere l.stations s
