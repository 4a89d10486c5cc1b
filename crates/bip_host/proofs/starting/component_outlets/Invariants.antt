use Rattle.std.specs.Prelude.{◌≡◌}
use Rattle.bip_host.proofs.starting.component_outlets.Given as goal

abbrev pub invariant-loop-number : goal.invariant-loop-number
invariant-loop-number l =
    (l.outlets.inboxes.now ≡ l.fn.notices.inboxes.now)
    × (l.notices.inboxes.now ≡ l.fn.notices.inboxes.now)
