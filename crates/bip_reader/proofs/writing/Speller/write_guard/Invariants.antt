use Rattle.bip_reader.specs.Writing.{IsSpelledGuard}
use Rattle.std.proofs.Common.{◌≡◌, ◌++◌, take}
use Rattle.std.specs.List.{flat_map}
use Rattle.bip_model.specs.Texts.{spaced}
use Rattle.bip_reader.specs.Writing.{variable_word, words_of_guard}
use Rattle.bip_reader.proofs.writing.Speller.write_guard.Given as goal

abbrev pub invariant-loop-index : goal.invariant-loop-index
invariant-loop-index l = (l.text.items ≡ l.initial.text.items ++ flat_map spaced
    (words_of_guard (variable_word l.self) (take l.index l.guard)))
    × IsSpelledGuard (take l.index l.guard)
