use Rattle.std.proofs.Common.{◌≡◌, length, map, take}
use Rattle.bip_model.specs.Reasons.{entry_of}
use Rattle.bip_model.proofs.reasons.Reasons.of.Given as goal

abbrev pub invariant-loop-place : goal.invariant-loop-place
invariant-loop-place l =
    (length l.kept ≡ 127) × (take l.place l.kept ≡ map entry_of (take l.place l.list))
