use Rattle.std.proofs.Common.{ℕ, codes}
use Rattle.std.specs.Prelude.{All}
use Rattle.bip_explain.specs.Declarations.{HasLineWith}
use Rattle.bip_explain.proofs.LineLemmas.{IsAtLine}
use Rattle.bip_explain.proofs.declarations.Declared.before.Given as goal

abbrev pub invariant-loop-number : goal.invariant-loop-number
invariant-loop-number l = record {
  at : (m : ℕ) × IsAtLine l.text m l.number-iterator;
  all : All (HasLineWith l.text l.line (codes "interaction")) l.declared.interactions;
}
