use Rattle.std.proofs.Common.{ℕ}
use Rattle.bip_explain.proofs.LineLemmas.{IsAtLine}
use Rattle.bip_explain.proofs.ends.find_again.Given as goal

abbrev pub invariant-loop-other : goal.invariant-loop-other
invariant-loop-other l = (m : ℕ) × IsAtLine l.text m l.other-iterator
