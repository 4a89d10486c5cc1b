use Rattle.std.proofs.Common.{ℕ, ◌≤◌, ◌<◌}
use Rattle.bip_bank.specs.Idleness.{IsAskedAt}
use Rattle.bip_bank.proofs.idleness.first_asked.Given as goal

abbrev pub invariant-loop-place : goal.invariant-loop-place
invariant-loop-place l = (s : ℕ) → l.from ≤ s → s < l.place → IsAskedAt l.plan l.queues s → ⊥
