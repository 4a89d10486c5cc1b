use Rattle.bip_host.proofs.MailboxLemmas.{ends_push}
use Rattle.bip_host.proofs.joining.part_all.Goals as goal

pub loop-mailbox-preserved : goal.loop-mailbox-preserved
loop-mailbox-preserved g c =
    let m = c.in-Some.mailbox in
    rw (c.in_ok-push.ensures.items, c.in_ok-push-2.ensures.items)
    (ends_push c.loop-mailbox.inboxes.items c.loop-mailbox.ends.items m.inbox
    (record { writers = m.writers; reader = m.reader }) c.loop-mailbox.invariant
    (m.written, m.read))
