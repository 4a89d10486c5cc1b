use Rattle.std.proofs.Common.{◌<◌, ◌≤◌, ◌-◌, ℕ, length}
use Rattle.bip_forks.specs.Sides.{listed_at}
use Rattle.bip_forks.proofs.sides.first_from.Given as goal

abbrev pub invariant-loop-low : goal.invariant-loop-low
invariant-loop-low l =
    record {
      order : l.low ≤ l.high;
      within : l.high ≤ length l.shared;
      before : (k : ℕ) → k < l.low → (listed_at l.shared k).with.0 < l.from;
      onward : (k : ℕ) → l.high ≤ k → k < length l.shared → l.from ≤ (listed_at l.shared k).with.0;
    }

abbrev pub decreases-loop-low : goal.decreases-loop-low
decreases-loop-low l = l.high - l.low
