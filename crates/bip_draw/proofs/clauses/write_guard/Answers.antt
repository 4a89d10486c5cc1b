use Rattle.std.proofs.Common.{sym}
use Rattle.std.specs.Prelude.{codes}
use Rattle.bip_reader.specs.Writing.{variable_word, words_of_comparison}
use Rattle.std.specs.List.{flat_map}
use Rattle.bip_model.specs.Texts.{spaced}
use Rattle.bip_draw.proofs.ClauseLemmas.{listed_more}
use Rattle.bip_draw.proofs.clauses.write_guard.Goals as goal

pub loop-index-preserved : goal.loop-index-preserved
loop-index-preserved c =
    rw (c.in_ok-write_comparison.ensures.text, c.in_ok-write_mark.ensures, c.loop-index.invariant)
    (rw c.index-guard-index.is (sym (listed_more (codes "\\nwhen") (codes "\\nand")
    (λ p. flat_map spaced (words_of_comparison (variable_word c.args.speller.now) p))
    c.args.text.now.items c.args.guard.now c.loop-index.index c.index-guard-index.result
    c.loop-index-test.true)))
