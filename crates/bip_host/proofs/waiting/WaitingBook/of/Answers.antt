use Rattle.std.proofs.Common.{subst, sym}
use Rattle.bip_host.specs.Waiting.{WaitInOrder}
use Rattle.bip_host.proofs.WaitingLemmas.{first_order}
use Rattle.bip_host.proofs.waiting.WaitingBook.of.Goals as goal

pub invariant_of-result : goal.invariant_of-result
invariant_of-result c = subst (WaitInOrder 0) (sym c.loop.invariant) (first_order c.loop.counter)
