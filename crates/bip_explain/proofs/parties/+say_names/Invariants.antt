use Rattle.std.proofs.Common.{length}
use Rattle.bip_explain.proofs.parties.+say_names.Given as goal

abbrev pub decreases-say_names : goal.decreases-say_names
decreases-say_names l = length l.comps.now
