use Rattle.std.proofs.Common.{◌≡◌}
use Rattle.bip_explain.proofs.twice.is_party_before.Given as goal

abbrev pub invariant-loop-before : goal.invariant-loop-before
invariant-loop-before l = l.before-iterator.line.now ≡ l.line
