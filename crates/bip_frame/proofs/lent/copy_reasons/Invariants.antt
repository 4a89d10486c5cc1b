use Rattle.std.proofs.Common.{◌≡◌, length, take}
use Rattle.bip_frame.specs.Lent.{whys_lent}
use Rattle.bip_frame.proofs.lent.copy_reasons.Given as goal

abbrev pub invariant-loop-i : goal.invariant-loop-i
invariant-loop-i l = (length l.whys ≡ 127) × (take l.i l.whys ≡ take l.i
    (whys_lent l.count l.reasons))
