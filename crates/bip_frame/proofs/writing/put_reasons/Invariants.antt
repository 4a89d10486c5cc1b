use Rattle.arrayvec.specs.ArrayVec.{array_vec_len}
use Rattle.std.proofs.Common.{◌≡◌, ◌+◌, ◌*◌, ◌++◌, ◌∷◌, length, take}
use Rattle.std.specs.List.{AllByRecursion, flat_map}
use Rattle.bip_frame.specs.Frames.{FitsInter, reason_entry}
use Rattle.bip_frame.proofs.writing.put_reasons.Given as goal

abbrev pub invariant-loop-i : goal.invariant-loop-i
invariant-loop-i o l =
    (l.out.items ≡ l.fn.out.items ++ length l.reasons ∷ flat_map reason_entry (take l.i l.reasons))
    × AllByRecursion FitsInter (take l.i l.reasons)
    × (array_vec_len l.out ≡ array_vec_len l.fn.out + (1 + 4 * l.i))
