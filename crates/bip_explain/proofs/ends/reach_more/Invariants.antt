use Rattle.std.proofs.Common.{ℕ, List}
use Rattle.std.specs.Prelude.{All}
use Rattle.bip_explain.specs.Ends.{IsPathFrom, IsSaidIn}
use Rattle.bip_explain.proofs.ends.reach_more.Given as goal

abbrev pub invariant-loop-priority : goal.invariant-loop-priority
invariant-loop-priority l =
    (text : List ℕ) → All (IsSaidIn text) l.said
    → All (IsPathFrom text l.from) l.initial.paths.items
    → All (IsPathFrom text l.from) l.paths.items
