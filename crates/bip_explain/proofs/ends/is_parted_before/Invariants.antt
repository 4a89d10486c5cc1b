use Rattle.std.proofs.Common.{ℕ}
use Rattle.bip_explain.proofs.LineLemmas.{IsAtLine}
use Rattle.bip_explain.proofs.ends.is_parted_before.Given as goal

abbrev pub invariant-loop-number : goal.invariant-loop-number
invariant-loop-number l = (m : ℕ) × IsAtLine l.text m l.number-iterator
