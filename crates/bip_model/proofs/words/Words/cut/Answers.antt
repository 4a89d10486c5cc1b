use Rattle.std.proofs.Common.{sym, ◌∙◌}
use Rattle.bip_model.proofs.WordLemmas.{one_more}
use Rattle.bip_model.proofs.words.Words.cut.Goals as goal

pub loop-word-preserved : goal.loop-word-preserved
loop-word-preserved g c =
    one_more g.M.Word.read_as c.args.self.now c.loop-word.rest c.loop-word.count c.in-Some.word.now
    c.in-Some.behind c.loop-word.invariant c.in-Some.ensures.some
    (sym c.read.ensures ∙ c.in_default-read.is)
