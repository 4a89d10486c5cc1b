use Rattle.std.proofs.Common.{◌≡◌, ◌≤◌, take}
use Rattle.bip_sequence.specs.Grids.{longest_name}
use Rattle.bip_sequence.proofs.grids.longest_name.Given as goal

abbrev pub invariant-loop-name : goal.invariant-loop-name
invariant-loop-name l =
    record {
      longest : l.most ≡ longest_name (take l.name-index l.names);
      short : l.most ≤ 32;
    }
