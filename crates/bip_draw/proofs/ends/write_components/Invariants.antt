use Rattle.std.proofs.Common.{◌≡◌, ◌++◌}
use Rattle.std.specs.List.{flat_map, range_with_len}
use Rattle.bip_replay.specs.Runs.{standing_of}
use Rattle.bip_draw.specs.Ends.{standing_line}
use Rattle.bip_draw.proofs.ends.write_components.Given as goal

abbrev pub invariant-loop-comp : goal.invariant-loop-comp
invariant-loop-comp l = l.text.items ≡ l.initial.text.items
    ++ flat_map (standing_line (standing_of l.position)) (range_with_len 0 l.comp)
