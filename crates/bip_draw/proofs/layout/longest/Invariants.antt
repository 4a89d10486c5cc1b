use Rattle.std.proofs.Common.{◌≡◌, ◌≤◌, take}
use Rattle.bip_draw.specs.Layout.{longest}
use Rattle.bip_draw.proofs.layout.longest.Given as goal

abbrev pub invariant-loop-name : goal.invariant-loop-name
invariant-loop-name l =
    record {
      longest : l.most ≡ longest (take l.name-index l.names);
      short : l.most ≤ 32;
    }
