use Rattle.std.proofs.Common.{◌≡◌, ◌+◌, true, length}
use Rattle.std.specs.Option.{option_map}
use Rattle.bipr.specs.Dividing.{mark_in}
use Rattle.bipr.proofs.dividing.mark_in.Given as goal

abbrev pub invariant-loop-rest : goal.invariant-loop-rest
invariant-loop-rest l =
    (mark_in true l.text ≡ option_map (λ n. n + l.at) (mark_in l.begins l.rest))
    × (l.at + length l.rest ≡ length l.text)

abbrev pub decreases-loop-rest : goal.decreases-loop-rest
decreases-loop-rest l = length l.rest
