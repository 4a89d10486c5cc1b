use Rattle.arrayvec.specs.ArrayVec.{array_vec_len}
use Rattle.std.proofs.Common.{◌≡◌, ◌+◌, ◌*◌, ◌++◌, ◌∷◌, length, take}
use Rattle.std.specs.List.{AllByRecursion, flat_map}
use Rattle.bip_frame.specs.Frames.{IsEntry, entry}
use Rattle.bip_frame.proofs.writing.put_entries.Given as goal

abbrev pub invariant-loop-want : goal.invariant-loop-want
invariant-loop-want o l =
    (l.out.items ≡ l.fn.out.items ++ length l.wants ∷ flat_map entry (take l.want-index l.wants))
    × AllByRecursion IsEntry (take l.want-index l.wants)
    × (array_vec_len l.out ≡ array_vec_len l.fn.out + (1 + 11 * l.want-index))
