use Rattle.std.proofs.Common.{◌≡◌, length, take}
use Rattle.bip_frame.specs.Lent.{values_in}
use Rattle.bip_frame.proofs.lent.values_of.Given as goal

abbrev pub invariant-loop-i : goal.invariant-loop-i
invariant-loop-i l = (length l.values ≡ 8) × (take l.i l.values ≡ take l.i
    (values_in l.count l.vars))
