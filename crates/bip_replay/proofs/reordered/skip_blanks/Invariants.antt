use Rattle.std.proofs.Common.{length}
use Rattle.bip_replay.specs.Expected.{IsBehindBlanks}
use Rattle.bip_replay.proofs.reordered.skip_blanks.Given as goal

abbrev pub invariant-loop-first : goal.invariant-loop-first
invariant-loop-first l = IsBehindBlanks l.text l.rest

abbrev pub decreases-loop-first : goal.decreases-loop-first
decreases-loop-first l = length l.rest
