use Rattle.std.proofs.Common.{◌≡◌, ◌++◌}
use Rattle.std.specs.List.{flat_map, range_with_len}
use Rattle.bip_draw.specs.Drawing.{port_text}
use Rattle.bip_draw.proofs.drawing.write_ports.Given as goal

abbrev pub invariant-loop-number : goal.invariant-loop-number
invariant-loop-number l = l.text.items ≡ l.initial.text.items ++ flat_map
    (port_text l.comp l.component) (range_with_len 0 l.number)
