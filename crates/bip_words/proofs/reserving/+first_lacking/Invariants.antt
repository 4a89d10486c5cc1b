use Rattle.std.proofs.Common.{length}
use Rattle.bip_words.proofs.reserving.+first_lacking.Given as goal

abbrev pub decreases-first_lacking : goal.decreases-first_lacking
decreases-first_lacking l = length l.wants.now
