use Rattle.std.proofs.Common.{◌≡◌, ◌+◌, ◌++◌, length, map, take}
use Rattle.bip_explain.specs.Explanations.{said_byte}
use Rattle.bip_explain.proofs.explanations.push_all.Given as goal

abbrev pub invariant-loop-byte : goal.invariant-loop-byte
invariant-loop-byte l = record {
  put : l.said.items ≡ l.fn.said.items ++ map said_byte (take l.byte-index l.bytes);
  counted : length l.said.items ≡ length l.fn.said.items + l.byte-index;
}
