use Rattle.std.proofs.Common.{◌≡◌, ◌++◌}
use Rattle.std.specs.List.{flat_map, range_with_len}
use Rattle.bip_model.specs.States.{state_of}
use Rattle.bip_draw.specs.Ends.{value_word}
use Rattle.bip_draw.specs.Locals.{value_at}
use Rattle.bip_draw.proofs.ends.write_values.Given as goal

abbrev pub invariant-loop-number : goal.invariant-loop-number
invariant-loop-number l = l.text.items ≡ l.initial.text.items ++ flat_map
    (λ v. value_word l.component v (value_at (state_of l.state) l.comp v))
    (range_with_len 0 l.number)
