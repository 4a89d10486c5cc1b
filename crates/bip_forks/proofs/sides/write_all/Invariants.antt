use Rattle.std.proofs.Common.{◌≡◌, ◌++◌, drop, map, take}
use Rattle.bip_forks.specs.Sides.{with_other_side}
use Rattle.bip_forks.specs.Stations.{rewritten}
use Rattle.bip_forks.specs.declared.sides.Shared.{Shared}
use Rattle.bip_forks.proofs.sides.write_all.Given as goal

abbrev pub invariant-loop-place : goal.invariant-loop-place
invariant-loop-place l =
    let written = λ (x : Shared). with_other_side (rewritten l.rows x.side) x in
    l.shared.items ≡ map written (take l.place l.initial.shared.items)
    ++ drop l.place l.initial.shared.items
