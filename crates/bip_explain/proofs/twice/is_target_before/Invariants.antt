use Rattle.std.proofs.Common.{◌≡◌, IfSome}
use Rattle.bip_explain.proofs.TwiceLemmas.{IsJustBefore}
use Rattle.bip_explain.proofs.twice.is_target_before.Given as goal

abbrev pub invariant-loop-placed : goal.invariant-loop-placed
invariant-loop-placed l = record {
  line : l.placed-iterator.line.now ≡ l.line;
  before : IfSome l.before (IsJustBefore l.line l.placed-iterator.rest.now);
}
