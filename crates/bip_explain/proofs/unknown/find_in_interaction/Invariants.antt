use Rattle.std.proofs.Common.{◌≡◌}
use Rattle.bip_model.specs.Texts.{words}
use Rattle.bip_explain.proofs.FrontLemmas.{IsLeft}
use Rattle.bip_explain.proofs.UnknownLemmas.{IsKindOf}
use Rattle.bip_explain.proofs.unknown.find_in_interaction.Given as goal

abbrev pub invariant-loop-placed : goal.invariant-loop-placed
invariant-loop-placed l = record {
  line : l.placed-iterator.line.now ≡ l.fn.words.line.now;
  left : IsLeft (IsKindOf l.kind) l.fn.words.line.now (words l.placed-iterator.rest.now);
}
