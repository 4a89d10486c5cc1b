use Rattle.std.proofs.Common.{◌≡◌, map}
use Rattle.bip_explain.proofs.TraceLemmas.{AreNames}
use Rattle.bip_explain.proofs.traces.find_want.Given as goal

abbrev pub invariant-loop-placed : goal.invariant-loop-placed
invariant-loop-placed l = record {
  line : l.placed-iterator.line.now ≡ l.line;
  names : AreNames l.line l.placed-iterator.rest.now (map (λ name. name.now) l.named.items);
}
