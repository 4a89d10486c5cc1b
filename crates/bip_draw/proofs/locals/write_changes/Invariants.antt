use Rattle.std.proofs.Common.{◌≡◌, ◌++◌}
use Rattle.std.specs.List.{flat_map, range_with_len}
use Rattle.bip_model.specs.States.{state_of}
use Rattle.bip_draw.specs.Locals.{change_part}
use Rattle.bip_draw.proofs.locals.write_changes.Given as goal

abbrev pub invariant-loop-comp : goal.invariant-loop-comp
invariant-loop-comp l = l.text.items ≡ l.initial.text.items ++ flat_map
    (change_part l.layout l.model (state_of l.before) (state_of l.after))
    (range_with_len 0 l.comp)
