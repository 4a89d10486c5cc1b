use Rattle.std.proofs.Common.{◌≡◌, ◌≤◌, ◌+◌, drop, max}
use Rattle.bip_draw.specs.Drawing.{longest_line}
use Rattle.bip_draw.proofs.drawing.longest_line.Given as goal

abbrev pub invariant-loop-byte : goal.invariant-loop-byte
invariant-loop-byte l =
    record {
      longest : max l.most (longest_line l.bytes (drop l.byte-index l.label))
          ≡ longest_line 1 l.label;
      small : l.bytes ≤ l.byte-index + 1;
    }
