use Rattle.std.proofs.Common.{◌≡◌, List, ℕ, false}
use Rattle.std.specs.List.{list_any}
use Rattle.bip_model.specs.Texts.{words}
use Rattle.bip_explain.specs.Limits.{AreFewYet, AreShort, begins_list, none_counted}
use Rattle.bip_explain.specs.Placed.{IsBehind}
use Rattle.bip_explain.proofs.LimitLemmas.{AreCounted}
use Rattle.bip_explain.proofs.limits.find_long.Given as goal

abbrev pub invariant-loop-placed : goal.invariant-loop-placed
invariant-loop-placed l = record {
  line : l.placed-iterator.line.now ≡ l.fn.left.line.now;
  within : AreFewYet l.counted;
  counted : (front : List (List ℕ)) → IsBehind front l.fn.left.line.now l.fn.left.rest.now
      → list_any begins_list front ≡ false → AreCounted l.fn.left.line.now l.counted
      (words l.placed-iterator.rest.now);
  short : AreShort l.counted (words l.placed-iterator.rest.now)
      → AreShort none_counted (words l.fn.left.rest.now);
}
