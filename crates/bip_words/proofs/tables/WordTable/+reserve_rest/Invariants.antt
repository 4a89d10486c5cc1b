use Rattle.std.proofs.Common.{length}
use Rattle.bip_words.proofs.tables.WordTable.+reserve_rest.Given as goal

abbrev pub decreases-reserve_rest : goal.decreases-reserve_rest
decreases-reserve_rest l = length l.rest.now
