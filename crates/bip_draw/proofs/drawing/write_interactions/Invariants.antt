use Rattle.std.proofs.Common.{◌≡◌, ◌++◌}
use Rattle.std.specs.List.{flat_map, range_with_len}
use Rattle.bip_model.specs.Naming.{name_in}
use Rattle.bip_reader.specs.Writing.{interaction_in}
use Rattle.bip_draw.specs.Drawing.{node_text}
use Rattle.bip_draw.proofs.drawing.write_interactions.Given as goal

abbrev pub invariant-loop-number : goal.invariant-loop-number
invariant-loop-number l = l.text.items ≡ l.initial.text.items ++ flat_map
    (λ a. node_text l.model l.classes a (name_in l.model.interaction_names a)
    (interaction_in l.model a)) (range_with_len 0 l.number)
