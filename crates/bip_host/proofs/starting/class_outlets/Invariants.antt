use Rattle.std.specs.Prelude.{◌≡◌}
use Rattle.bip_host.proofs.starting.class_outlets.Given as goal

abbrev pub invariant-loop-class : goal.invariant-loop-class
invariant-loop-class l =
    (l.outlets.inboxes.now ≡ l.fn.offers.inboxes.now)
    × (l.offers.inboxes.now ≡ l.fn.offers.inboxes.now)
