use Rattle.std.proofs.Common.{◌≡◌, [], replicate}
use Rattle.bip_bank.proofs.opening.no_requests.Given as goal

abbrev pub invariant-loop : goal.invariant-loop
invariant-loop l = l.queues.items ≡ replicate l.counter []
