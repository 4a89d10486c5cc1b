use Rattle.std.proofs.Common.{◌≡◌, length, take}
use Rattle.bip_observe.specs.Offers.{observed}
use Rattle.bip_observe.proofs.ReasonLemmas.{whys_by}
use Rattle.bip_observe.proofs.because.reasons_above.Given as goal

abbrev pub invariant-loop-place : goal.invariant-loop-place
invariant-loop-place l =
    (length l.whys ≡ 127) × (take l.place l.whys ≡ whys_by (observed l.offers) l.inter.0
    (take l.place l.above))
