use Rattle.std.proofs.Common.{length}
use Rattle.bip_explain.proofs.hindrances.+say_places.Given as goal

abbrev pub decreases-say_places : goal.decreases-say_places
decreases-say_places l = length l.participants.now
