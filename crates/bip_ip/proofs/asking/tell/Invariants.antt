use Rattle.std.proofs.Common.{◌≡◌, length, map, take, zip}
use Rattle.bip_observe.specs.Offers.{observed}
use Rattle.bip_observe.specs.Verdicts.{offers_of}
use Rattle.bip_ip.specs.Asking.{notify_of}
use Rattle.bip_ip.proofs.asking.tell.Given as goal

abbrev pub invariant-loop-place : goal.invariant-loop-place
invariant-loop-place l =
    (length l.told ≡ 8) × (take l.place l.told ≡ take l.place
    (map (notify_of (offers_of (observed l.offers))) (zip l.participants l.values)))
