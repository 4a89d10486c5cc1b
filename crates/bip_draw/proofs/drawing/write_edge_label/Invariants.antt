use Rattle.std.proofs.Common.{◌≡◌, ◌≤◌, ◌++◌, [], length, take}
use Rattle.std.specs.Prelude.{filter}
use Rattle.bip_draw.specs.Clauses.{listed}
use Rattle.bip_draw.specs.Drawing.{are_parallel, transition_text}
use Rattle.bip_draw.proofs.drawing.write_edge_label.Given as goal

abbrev pub invariant-loop-other : goal.invariant-loop-other
invariant-loop-other l =
    record {
      text : l.text.items ≡ l.initial.text.items ++ listed [] l.gap (transition_text l.component)
          (filter (are_parallel l.transition) (take l.other-index l.other-items));
      count : l.count
          ≡ length (filter (are_parallel l.transition) (take l.other-index l.other-items));
      small : l.count ≤ l.other-index;
    }
