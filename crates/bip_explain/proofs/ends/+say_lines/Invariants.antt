use Rattle.std.proofs.Common.{length}
use Rattle.bip_explain.proofs.ends.+say_lines.Given as goal

abbrev pub decreases-say_lines : goal.decreases-say_lines
decreases-say_lines l = length l.lines.now
