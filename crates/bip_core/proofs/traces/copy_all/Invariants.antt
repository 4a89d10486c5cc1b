use Rattle.std.proofs.Common.{◌≡◌, ◌<◌, length, take}
use Rattle.std.specs.Prelude.{vec_capacity}
use Rattle.bip_core.proofs.traces.copy_all.Given as goal

abbrev pub invariant-loop-grant : goal.invariant-loop-grant
invariant-loop-grant l =
    (l.own.items ≡ take l.grant-index l.granted) × (length l.granted < vec_capacity l.own)
