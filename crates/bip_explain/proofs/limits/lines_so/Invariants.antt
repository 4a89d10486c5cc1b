use Rattle.std.proofs.Common.{◌≡◌, ℕ, ◌<◌}
use Rattle.bip_explain.specs.Limits.{counted_to, lines_so}
use Rattle.bip_explain.proofs.LineLemmas.{IsAtLine}
use Rattle.bip_explain.proofs.limits.lines_so.Given as goal

abbrev pub invariant-loop-number : goal.invariant-loop-number
invariant-loop-number l = record {
  counted : lines_so l.text l.line l.keyword ≡ counted_to l.keyword l.line l.count
      l.number-iterator;
  few : (m : ℕ) × IsAtLine l.text m l.number-iterator × (l.count < m);
}
