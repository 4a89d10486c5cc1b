use Rattle.std.proofs.Common.{◌≤◌}
use Rattle.bip_host.proofs.actors.run_actor.Given as goal

abbrev pub invariant-loop-number : goal.invariant-loop-number
invariant-loop-number g l = l.made ≤ l.turns
