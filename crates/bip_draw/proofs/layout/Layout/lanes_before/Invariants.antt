use Rattle.std.proofs.Common.{◌≡◌, ◌≤◌}
use Rattle.bip_draw.specs.Layout.{lanes_before}
use Rattle.bip_draw.proofs.layout.Layout.lanes_before.Given as goal

abbrev pub invariant-loop-other : goal.invariant-loop-other
invariant-loop-other l =
    record {
      before : l.lanes ≡ lanes_before l.self.only l.other;
      few : l.lanes ≤ l.other;
    }
