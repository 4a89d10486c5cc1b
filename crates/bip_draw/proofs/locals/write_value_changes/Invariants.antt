use Rattle.std.proofs.Common.{◌≡◌, ◌++◌}
use Rattle.std.specs.List.{flat_map, range_with_len}
use Rattle.bip_model.specs.States.{state_of}
use Rattle.bip_draw.specs.Locals.{value_change}
use Rattle.bip_draw.proofs.locals.write_value_changes.Given as goal

abbrev pub invariant-loop-number : goal.invariant-loop-number
invariant-loop-number l = l.text.items ≡ l.initial.text.items ++ flat_map
    (value_change l.layout l.component l.comp (state_of l.before) (state_of l.after))
    (range_with_len 0 l.number)
