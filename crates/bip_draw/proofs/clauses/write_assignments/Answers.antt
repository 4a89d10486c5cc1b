use Rattle.std.proofs.Common.{sym}
use Rattle.std.specs.Prelude.{codes}
use Rattle.bip_reader.specs.Writing.{variable_word, words_of_assignment}
use Rattle.std.specs.List.{flat_map}
use Rattle.bip_model.specs.Texts.{spaced}
use Rattle.bip_draw.proofs.ClauseLemmas.{listed_more}
use Rattle.bip_draw.proofs.clauses.write_assignments.Goals as goal

pub loop-index-preserved : goal.loop-index-preserved
loop-index-preserved c =
    rw (c.in_ok-write_assignment.ensures.text, c.in_ok-write_mark.ensures, c.loop-index.invariant)
    (rw c.index-assignments-index.is (sym (listed_more (codes "\\ndo") (codes "\\n;")
    (λ p. flat_map spaced (words_of_assignment (variable_word c.args.speller.now) p))
    c.args.text.now.items c.args.assignments.now c.loop-index.index c.index-assignments-index.result
    c.loop-index-test.true)))
