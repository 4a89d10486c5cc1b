use Rattle.std.proofs.Common.{ℕ, ◌<◌}
use Rattle.bip_explain.specs.Later.{IsDeclaredOn}
use Rattle.bip_explain.specs.Scopes.{IsStandingAt}
use Rattle.bip_explain.proofs.LineLemmas.{IsAtLine}
use Rattle.bip_explain.proofs.later.later_line_with.Given as goal

abbrev pub invariant-loop-number : goal.invariant-loop-number
invariant-loop-number l =
    (m : ℕ) × IsAtLine l.text m l.number-iterator × IsStandingAt l.text m l.standing
    × ((n : ℕ) → n < m → l.line < n → ¬ IsDeclaredOn l.text n l.keyword l.name)
