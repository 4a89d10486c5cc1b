use Rattle.std.proofs.Common.{◌≡◌}
use Rattle.bipr.specs.Ahead.{AreExploredBehind}
use Rattle.bipr.proofs.ahead.explore_block.Given as goal

abbrev pub invariant-loop-done : goal.invariant-loop-done
invariant-loop-done l =
    AreExploredBehind l.plan l.asked l.from l.block × (l.block.tally.traces ≡ l.done)
