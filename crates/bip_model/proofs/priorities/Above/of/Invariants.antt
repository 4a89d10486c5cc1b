use Rattle.std.proofs.Common.{◌≡◌, ◌↔◌, ◌<◌, ℕ, length, get_or, true}
use Rattle.bip_model.specs.Priorities.{HasAbove}
use Rattle.bip_model.specs.Sets.{has}
use Rattle.bip_model.proofs.priorities.Above.of.Given as goal

abbrev pub invariant-loop-number : goal.invariant-loop-number
invariant-loop-number l = (length l.sets ≡ 128) × ((a b : ℕ) → a < l.number
    → (has (get_or l.sets a 0) b ≡ true) ↔ HasAbove l.pairs a b)
