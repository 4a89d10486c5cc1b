use Rattle.std.specs.Prelude.{◌≡◌, drop, length}
use Rattle.bip_host.specs.Ends.{AreIntakesOf}
use Rattle.bip_host.specs.Mailboxes.{AreEndsOfEach, AreWritersAt}
use Rattle.bip_host.proofs.joining.join_all.Given as goal

abbrev pub invariant-loop-loose : goal.invariant-loop-loose
invariant-loop-loose g l =
    AreEndsOfEach (drop l.place l.inboxes) l.loose-iterator.rest.items
    × (l.place ≡ length l.intakes.items) × (l.place ≡ length l.all.items)
    × AreIntakesOf l.inboxes l.intakes.items × AreWritersAt (λ ws. ws.items) l.inboxes l.all.items
