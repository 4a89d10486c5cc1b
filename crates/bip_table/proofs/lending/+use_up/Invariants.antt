use Rattle.std.proofs.Common.{length}
use Rattle.bip_table.proofs.lending.+use_up.Given as goal

abbrev pub decreases-use_up : goal.decreases-use_up
decreases-use_up l = length l.wants.now
