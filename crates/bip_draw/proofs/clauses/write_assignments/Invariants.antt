use Rattle.std.proofs.Common.{◌≡◌, ◌++◌, take}
use Rattle.bip_draw.specs.Clauses.{assignments_text}
use Rattle.bip_reader.specs.Writing.{variable_word}
use Rattle.bip_draw.proofs.clauses.write_assignments.Given as goal

abbrev pub invariant-loop-index : goal.invariant-loop-index
invariant-loop-index l = l.text.items ≡ l.initial.text.items
    ++ assignments_text (variable_word l.speller) (take l.index l.assignments)
