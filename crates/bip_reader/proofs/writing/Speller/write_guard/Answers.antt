use Rattle.std.proofs.Common.{sym}
use Rattle.std.specs.Prelude.{codes}
use Rattle.bip_reader.specs.Writing.{IsSpelledComparison, variable_word, words_of_comparison}
use Rattle.bip_reader.proofs.WritingLemmas.{list_more, one_more}
use Rattle.bip_reader.proofs.writing.Speller.write_guard.Goals as goal

pub loop-index-preserved : goal.loop-index-preserved
loop-index-preserved c = (
  rw (c.in_ok-write_comparison.ensures.text, c.in_ok-write_mark.ensures, c.loop-index.invariant.0)
      (rw c.index-guard-index.is (sym (list_more (codes "when") (codes "and")
      (words_of_comparison (variable_word c.args.self.now)) c.args.text.now.items
      c.args.guard.now c.loop-index.index c.index-guard-index.result c.loop-index-test.true))),
  one_more (IsSpelledComparison) c.args.guard.now c.loop-index.index c.index-guard-index.result
      c.loop-index-test.true c.loop-index.invariant.1
      (rw (← c.index-guard-index.is) c.in_ok-write_comparison.ensures.spelled),
)
