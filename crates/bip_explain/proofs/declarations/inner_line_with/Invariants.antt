use Rattle.std.proofs.Common.{ℕ, List, IfNone, IfSome}
use Rattle.bip_explain.specs.Declarations.{IsInnerLine}
use Rattle.bip_explain.proofs.LineLemmas.{IsAtLine}
use Rattle.bip_explain.proofs.TwiceLemmas.{AreOver, IsFound}
use Rattle.bip_explain.proofs.declarations.inner_line_with.Given as goal

abbrev pub Declares : List ℕ → List ℕ → ℕ → Type 0
Declares text name n = IsInnerLine text n name

abbrev pub invariant-loop-number : goal.invariant-loop-number
invariant-loop-number l =
    (m : ℕ) × IsAtLine l.text m l.number-iterator
    × IfSome l.found (IsFound (Declares l.text l.name) l.text l.line m)
    × IfNone l.found (AreOver (Declares l.text l.name) l.text l.line m)
