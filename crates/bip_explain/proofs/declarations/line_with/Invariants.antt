use Rattle.std.proofs.Common.{ℕ}
use Rattle.bip_explain.specs.Declarations.{NoLineWith}
use Rattle.bip_explain.proofs.LineLemmas.{IsAtLine}
use Rattle.bip_explain.proofs.declarations.line_with.Given as goal

abbrev pub invariant-loop-number : goal.invariant-loop-number
invariant-loop-number l = (m : ℕ) × IsAtLine l.text m l.number-iterator
    × NoLineWith l.text m l.keyword l.name
