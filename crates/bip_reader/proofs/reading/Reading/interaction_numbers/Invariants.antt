use Rattle.std.proofs.Common.{◌≡◌}
use Rattle.bip_reader.specs.Reading.{draft_of, interaction_named}
use Rattle.bip_model.specs.Words.{each_of}
use Rattle.bip_model.proofs.WordLemmas.{each_behind}
use Rattle.bip_reader.proofs.reading.Reading.interaction_numbers.Given as goal

abbrev pub invariant-loop-name : goal.invariant-loop-name
invariant-loop-name l =
    each_behind (interaction_named (draft_of l.self)) l.numbers.items l.name-iterator ≡ each_of
    (interaction_named (draft_of l.self)) l.fn.names
