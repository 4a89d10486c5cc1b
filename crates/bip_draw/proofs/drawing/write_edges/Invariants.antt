use Rattle.std.proofs.Common.{◌≡◌, ◌++◌, take}
use Rattle.std.specs.List.{flat_map}
use Rattle.bip_draw.specs.Drawing.{edge_text, firsts_of}
use Rattle.bip_draw.proofs.drawing.write_edges.Given as goal

abbrev pub invariant-loop-index : goal.invariant-loop-index
invariant-loop-index l = l.text.items ≡ l.initial.text.items ++ flat_map
    (edge_text l.comp l.component) (firsts_of (take l.index l.transitions))
