use Rattle.bip_host.specs.Mailboxes.{AreEndsOfEach}
use Rattle.bip_host.proofs.joining.part_all.Given as goal

abbrev pub invariant-loop-mailbox : goal.invariant-loop-mailbox
invariant-loop-mailbox g l = AreEndsOfEach l.inboxes.items l.ends.items
