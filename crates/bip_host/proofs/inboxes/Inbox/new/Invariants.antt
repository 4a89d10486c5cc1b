use Rattle.std.specs.Prelude.{◌≡◌, [], All, length}
use Rattle.bip_host.specs.Posting.{IsWriterOf, put_by}
use Rattle.bip_host.proofs.inboxes.Inbox.new.Given as goal

abbrev pub invariant-loop : goal.invariant-loop
invariant-loop g l =
    (length l.writers.items ≡ l.counter)
    × All (λ w. IsWriterOf l.inbox w × (put_by w ≡ [])) l.writers.items
