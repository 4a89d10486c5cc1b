use Rattle.std.proofs.Common.{ℕ, ◌≤◌, ◌<◌, ◌+◌, ◌*◌, ◌/◌, ◌%◌}
use Rattle.bip_forks.specs.Idleness.{IsIdleWith}
use Rattle.bip_forks.proofs.idleness.next_pair.Given as goal

abbrev pub invariant-loop-row : goal.invariant-loop-row
invariant-loop-row l =
    (l.to < l.count)
    × (l.from ≤ l.row * l.count + l.to)
    × ((k : ℕ) → l.from ≤ k → k < l.row * l.count + l.to
    → IsIdleWith l.exchange l.stations (k / l.count) (k % l.count))
