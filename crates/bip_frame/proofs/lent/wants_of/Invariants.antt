use Rattle.std.proofs.Common.{◌≡◌, length, take}
use Rattle.bip_frame.specs.Lent.{wants_in}
use Rattle.bip_frame.proofs.lent.wants_of.Given as goal

abbrev pub invariant-loop-i : goal.invariant-loop-i
invariant-loop-i l = (length l.wants ≡ 32) × (take l.i l.wants ≡ take l.i
    (wants_in l.count l.entries))
