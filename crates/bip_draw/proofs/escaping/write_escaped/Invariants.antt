use Rattle.std.proofs.Common.{◌≡◌, ◌++◌, take}
use Rattle.bip_draw.specs.Escaping.{escaped}
use Rattle.bip_draw.proofs.escaping.write_escaped.Given as goal

abbrev pub invariant-loop-byte : goal.invariant-loop-byte
invariant-loop-byte l = l.text.items ≡ l.initial.text.items ++ escaped (take l.byte-index l.part)
