use Rattle.std.proofs.Common.{◌≡◌, ◌+◌, ◌≤◌, length}
use Rattle.bip_model.specs.Texts.{words}
use Rattle.bip_model.proofs.words.count_words.Given as goal

abbrev pub invariant-loop-behind : goal.invariant-loop-behind
invariant-loop-behind l = (l.count + length (words l.rest) ≡ length (words l.line))
    × (l.count + length l.rest ≤ length l.line)

abbrev pub decreases-loop-behind : goal.decreases-loop-behind
decreases-loop-behind l = length l.rest
