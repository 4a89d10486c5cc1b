use Rattle.std.proofs.Common.{sym, arith}
use Rattle.std.proofs.lemmas.List.{length-take-le, take_all}
use Rattle.bip_explain.proofs.explanations.beginning.Goals as goal

pub slice_bounds-result-end : goal.slice_bounds-result-end
slice_bounds-result-end c = sym (length-take-le 48 c.args.word.now (omega arith))

pub returns-then-word-le-MOST_OF_WORD-clause-beginning : goal.returns-then-word-le-MOST_OF_WORD-clause-beginning
returns-then-word-le-MOST_OF_WORD-clause-beginning c =
    sym (take_all 48 c.args.word.now (omega arith))

pub returns-else-word-le-MOST_OF_WORD-clause-short : goal.returns-else-word-le-MOST_OF_WORD-clause-short
returns-else-word-le-MOST_OF_WORD-clause-short c =
    omega (arith, length-take-le 48 c.args.word.now (omega arith))
