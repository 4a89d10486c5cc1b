use Rattle.std.specs.Prelude.{◌≤◌, All}
use Rattle.bip_host.proofs.hosts.fn.run_threads.scope.Given as goal

abbrev pub invariant-loop-node : goal.invariant-loop-node
invariant-loop-node g l = All (λ h. h.promise.turns ≤ l.turns) l.running.items
