use Rattle.std.proofs.Common.{ℕ, List}
use Rattle.std.specs.Prelude.{All}
use Rattle.bip_explain.specs.Ends.{IsPathFrom, IsSaidIn}
use Rattle.bip_explain.proofs.ends.paths_from.Given as goal

abbrev pub invariant-loop-turn : goal.invariant-loop-turn
invariant-loop-turn l =
    (text : List ℕ) → All (IsSaidIn text) l.said → All (IsPathFrom text l.name) l.paths.items
