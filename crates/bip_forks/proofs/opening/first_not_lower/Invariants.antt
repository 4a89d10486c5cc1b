use Rattle.std.proofs.Common.{ℕ, ◌<◌, ◌≤◌, get_or}
use Rattle.bip_partition.specs.Tables.{comp}
use Rattle.bip_forks.proofs.opening.first_not_lower.Given as goal

abbrev pub invariant-loop-place : goal.invariant-loop-place
invariant-loop-place l =
    (k : ℕ) → l.from ≤ k → k < l.place → (get_or l.comps k (comp 0)).0 < l.comp.0
