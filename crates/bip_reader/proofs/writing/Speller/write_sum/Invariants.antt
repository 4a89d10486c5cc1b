use Rattle.std.specs.Prelude.{All}
use Rattle.bip_reader.specs.Writing.{IsSpelledTerm}
use Rattle.bip_model.specs.declared.expressions.Sign.{Sign}
use Rattle.bip_model.specs.declared.expressions.Term.{Term}
use Rattle.bip_model.specs.declared.expressions.Variable.{Variable}
use Rattle.std.proofs.Common.{◌≡◌, ◌++◌, take}
use Rattle.std.specs.List.{flat_map}
use Rattle.bip_model.specs.Texts.{spaced}
use Rattle.bip_reader.specs.Writing.{variable_word, words_of_signed}
use Rattle.bip_reader.proofs.writing.Speller.write_sum.Given as goal

abbrev pub invariant-loop-term : goal.invariant-loop-term
invariant-loop-term l = (l.text.items ≡ l.initial.text.items ++ flat_map spaced
    (flat_map (words_of_signed (variable_word l.self)) (take l.term-index l.term-items)))
    × All (λ (t : Sign × Term Variable). IsSpelledTerm t.1) (take l.term-index l.term-items)
