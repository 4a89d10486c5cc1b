use Rattle.std.proofs.Common.{◌≡◌}
use Rattle.bip_model.specs.Texts.{words}
use Rattle.bip_explain.specs.Unknown.{AreDeclared}
use Rattle.bip_explain.proofs.FrontLemmas.{IsLeft}
use Rattle.bip_explain.proofs.UnknownLemmas.{NameInteractions}
use Rattle.bip_explain.proofs.unknown.find_member.Given as goal

abbrev pub invariant-loop-placed : goal.invariant-loop-placed
invariant-loop-placed l = record {
  line : l.placed-iterator.line.now ≡ l.fn.left.line.now;
  known : AreDeclared l.text l.number (words l.placed-iterator.rest.now)
      → AreDeclared l.text l.number (words l.fn.left.rest.now);
  left : IsLeft NameInteractions l.fn.left.line.now (words l.placed-iterator.rest.now);
}
