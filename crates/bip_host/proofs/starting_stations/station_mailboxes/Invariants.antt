use Rattle.std.specs.Prelude.{◌≡◌, length}
use Rattle.bip_host.proofs.starting_stations.station_mailboxes.Given as goal

abbrev pub invariant-loop-place : goal.invariant-loop-place
invariant-loop-place l =
    length l.mailboxes.items ≡ l.place
