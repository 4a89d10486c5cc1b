use Rattle.std.specs.Prelude.{◌≡◌}
use Rattle.bip_host.proofs.layers.station_outlets.Given as goal

abbrev pub invariant-loop-number : goal.invariant-loop-number
invariant-loop-number l =
    (l.own.inboxes.now ≡ l.fn.outlets.inboxes.now)
    × (l.outlets.inboxes.now ≡ l.fn.outlets.inboxes.now)
