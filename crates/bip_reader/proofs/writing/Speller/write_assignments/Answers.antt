use Rattle.std.proofs.Common.{sym}
use Rattle.std.specs.Prelude.{codes}
use Rattle.bip_model.specs.declared.expressions.Assignment.{Assignment}
use Rattle.bip_model.specs.declared.expressions.Variable.{Variable}
use Rattle.bip_reader.specs.Writing.{IsSpelledSum, variable_word, words_of_assignment}
use Rattle.bip_reader.proofs.WritingLemmas.{list_more, one_more}
use Rattle.bip_reader.proofs.writing.Speller.write_assignments.Goals as goal

pub loop-index-preserved : goal.loop-index-preserved
loop-index-preserved c = (
  rw (c.in_ok-write_assignment.ensures.text, c.in_ok-write_mark.ensures, c.loop-index.invariant.0)
      (rw c.index-assignments-index.is (sym (list_more (codes "do") (codes ";")
      (words_of_assignment (variable_word c.args.self.now)) c.args.text.now.items
      c.args.assignments.now c.loop-index.index c.index-assignments-index.result
      c.loop-index-test.true))),
  one_more (λ (a : Assignment Variable). IsSpelledSum a.sum) c.args.assignments.now
      c.loop-index.index c.index-assignments-index.result c.loop-index-test.true
      c.loop-index.invariant.1 (rw (← c.index-assignments-index.is)
      c.in_ok-write_assignment.ensures.spelled),
)
