use Rattle.std.proofs.Common.{◌≡◌, ◌≤◌, take}
use Rattle.bip_draw.specs.Layout.{most_by, label_length}
use Rattle.bip_draw.proofs.layout.longest_label.Given as goal

abbrev pub invariant-loop-component : goal.invariant-loop-component
invariant-loop-component l =
    record {
      longest : l.most ≡ most_by (label_length l.values) (take l.component-index l.components);
      short : l.most ≤ 43;
    }
