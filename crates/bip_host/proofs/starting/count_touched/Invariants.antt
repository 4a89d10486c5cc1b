use Rattle.std.specs.Prelude.{◌≤◌}
use Rattle.bip_host.proofs.starting.count_touched.Given as goal

abbrev pub invariant-loop-number : goal.invariant-loop-number
invariant-loop-number l =
    l.count ≤ l.number
