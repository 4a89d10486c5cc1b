use Rattle.std.specs.Prelude.{All}
use Rattle.std.proofs.Common.{take}
use Rattle.bip_model.specs.Naming.{IsName}
use Rattle.bip_reader.specs.Writing.{IsSpelledInteraction}
use Rattle.std.proofs.Common.{◌≡◌, ◌++◌}
use Rattle.std.specs.List.{flat_map, range_with_len}
use Rattle.bip_model.specs.Naming.{name_in}
use Rattle.bip_reader.specs.Writing.{interaction_in, line_of_interaction}
use Rattle.bip_reader.proofs.writing.write_interactions.Given as goal

abbrev pub invariant-loop-number : goal.invariant-loop-number
invariant-loop-number l = (l.text.items ≡ l.initial.text.items ++ flat_map
    (λ a. line_of_interaction l.model (name_in l.model.interaction_names a)
    (interaction_in l.model a)) (range_with_len 0 l.number))
    × All IsName (take l.number l.model.interaction_names)
    × All IsSpelledInteraction (take l.number l.model.interactions)
