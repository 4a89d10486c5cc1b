use Rattle.std.proofs.Common.{ℕ}
use Rattle.std.specs.Prelude.{All}
use Rattle.bip_explain.specs.Ends.{IsSaidIn}
use Rattle.bip_explain.proofs.LineLemmas.{IsAtLine}
use Rattle.bip_explain.proofs.ends.priorities_in.Given as goal

abbrev pub invariant-loop-number : goal.invariant-loop-number
invariant-loop-number l = record {
  at : (m : ℕ) × IsAtLine l.text m l.number-iterator;
  all : All (IsSaidIn l.text) l.said.items;
}
