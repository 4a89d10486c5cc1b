use Rattle.std.proofs.Common.{length}
use Rattle.bip_model.proofs.WordLemmas.{IsCutSoFar}
use Rattle.bip_model.proofs.words.Words.cut.Given as goal

abbrev pub invariant-loop-word : goal.invariant-loop-word
invariant-loop-word g l = IsCutSoFar g.M.Word.read_as l.self l.rest l.count

abbrev pub decreases-loop-word : goal.decreases-loop-word
decreases-loop-word g l = length l.rest
