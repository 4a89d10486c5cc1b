use Rattle.std.proofs.Common.{◌≡◌}
use Rattle.bip_model.specs.Texts.{words}
use Rattle.bip_explain.proofs.FrontLemmas.{AreTwo, IsLeft}
use Rattle.bip_explain.proofs.ends.is_member_before.Given as goal

abbrev pub invariant-loop-before : goal.invariant-loop-before
invariant-loop-before l = record {
  line : l.before-iterator.line.now ≡ l.line;
  left : IsLeft AreTwo l.line (words l.before-iterator.rest.now);
}
