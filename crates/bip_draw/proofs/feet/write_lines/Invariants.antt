use Rattle.std.proofs.Common.{◌≡◌, ◌++◌, List, ℕ}
use Rattle.std.specs.List.{flat_map}
use Rattle.bip_draw.specs.Shapes.{foot_line}
use Rattle.bip_model.proofs.LineLemmas.{AreLeft}
use Rattle.bip_draw.proofs.feet.write_lines.Given as goal

abbrev pub invariant-loop-line : goal.invariant-loop-line
invariant-loop-line l =
    (front : List (List ℕ)) × AreLeft l.written front l.line-iterator
    × (l.text.items ≡ l.initial.text.items ++ flat_map foot_line front)
