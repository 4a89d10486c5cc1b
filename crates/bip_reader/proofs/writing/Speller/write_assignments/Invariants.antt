use Rattle.bip_reader.specs.Writing.{AreSpelledAssignments}
use Rattle.std.proofs.Common.{◌≡◌, ◌++◌, take}
use Rattle.std.specs.List.{flat_map}
use Rattle.bip_model.specs.Texts.{spaced}
use Rattle.bip_reader.specs.Writing.{variable_word, words_of_assignments}
use Rattle.bip_reader.proofs.writing.Speller.write_assignments.Given as goal

abbrev pub invariant-loop-index : goal.invariant-loop-index
invariant-loop-index l = (l.text.items ≡ l.initial.text.items ++ flat_map spaced
    (words_of_assignments (variable_word l.self) (take l.index l.assignments)))
    × AreSpelledAssignments (take l.index l.assignments)
