use Rattle.std.proofs.Common.{◌≡◌, true}
use Rattle.bip_model.specs.Texts.{words}
use Rattle.bip_explain.proofs.FrontLemmas.{HeadSo, IsLeft}
use Rattle.bip_explain.proofs.twice.find_party_again.Given as goal

abbrev pub invariant-loop-placed : goal.invariant-loop-placed
invariant-loop-placed l = record {
  line : l.placed-iterator.line.now ≡ l.fn.words.line.now;
  left : IsLeft (HeadSo true) l.fn.words.line.now (words l.placed-iterator.rest.now);
}
