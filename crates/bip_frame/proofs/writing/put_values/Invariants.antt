use Rattle.arrayvec.specs.ArrayVec.{array_vec_len}
use Rattle.std.proofs.Common.{◌≡◌, ◌+◌, ◌*◌, ◌++◌, ◌∷◌, length, take}
use Rattle.std.specs.Int.{w32, to_be_bytes}
use Rattle.std.specs.List.{flat_map}
use Rattle.bip_frame.proofs.writing.put_values.Given as goal

abbrev pub invariant-loop-value : goal.invariant-loop-value
invariant-loop-value o l =
    (l.out.items ≡ l.fn.out.items ++ length l.values ∷ flat_map (to_be_bytes w32)
    (take l.value-index l.values))
    × (array_vec_len l.out ≡ array_vec_len l.fn.out + (1 + 4 * l.value-index))
