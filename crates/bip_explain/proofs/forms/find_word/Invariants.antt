use Rattle.std.proofs.Common.{◌≡◌}
use Rattle.bip_model.specs.Texts.{words}
use Rattle.bip_explain.proofs.FormLemmas.{IsGoneTo}
use Rattle.bip_explain.proofs.forms.find_word.Given as goal

abbrev pub invariant-loop-placed : goal.invariant-loop-placed
invariant-loop-placed l = record {
  line : l.placed-iterator.line.now ≡ l.fn.left.line.now;
  gone : IsGoneTo l.spelling l.fn.start (words l.fn.left.rest.now) l.yielded l.expected
      (words l.placed-iterator.rest.now);
}
