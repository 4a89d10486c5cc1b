use Rattle.std.proofs.Common.{ℕ, ◌+◌}
use Rattle.bip_explain.proofs.LineLemmas.{IsAtLine}
use Rattle.bip_explain.proofs.ScopeLemmas.{StandsSoFar}
use Rattle.bip_explain.proofs.scopes.standing_behind.Given as goal

abbrev pub invariant-loop-number : goal.invariant-loop-number
invariant-loop-number l = (m : ℕ) × IsAtLine l.text m l.number-iterator
    × StandsSoFar l.text (l.last + 1) m l.standing
