use Rattle.std.proofs.Common.{◌≡◌, ◌++◌}
use Rattle.std.specs.List.{flat_map, range_with_len}
use Rattle.bip_model.specs.States.{state_of}
use Rattle.bip_draw.specs.Locals.{local_part}
use Rattle.bip_draw.proofs.locals.write_locals.Given as goal

abbrev pub invariant-loop-comp : goal.invariant-loop-comp
invariant-loop-comp l = l.text.items ≡ l.initial.text.items ++ flat_map
    (local_part l.layout l.model (state_of l.state)) (range_with_len 0 l.comp)
