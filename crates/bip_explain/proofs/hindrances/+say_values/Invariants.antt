use Rattle.std.proofs.Common.{length}
use Rattle.bip_explain.proofs.hindrances.+say_values.Given as goal

abbrev pub decreases-say_values : goal.decreases-say_values
decreases-say_values l = length l.names.now
