use Rattle.std.proofs.Common.{length}
use Rattle.bip_model.proofs.expressions.+transfer.Given as goal

abbrev pub decreases-transfer : goal.decreases-transfer
decreases-transfer l = length l.assignments.now
