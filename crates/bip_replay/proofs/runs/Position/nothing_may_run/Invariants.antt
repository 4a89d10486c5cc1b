use Rattle.std.proofs.Common.{ℕ, ◌<◌}
use Rattle.bip_model.specs.Steps.{MayRun}
use Rattle.bip_replay.specs.Runs.{standing_of}
use Rattle.bip_replay.proofs.runs.Position.nothing_may_run.Given as goal

abbrev pub invariant-loop-number : goal.invariant-loop-number
invariant-loop-number l =
    (a : ℕ) → a < l.number → ¬ MayRun l.self.model (standing_of l.self).state a
