use Rattle.std.proofs.Common.{◌≡◌}
use Rattle.bip_model.specs.Texts.{words}
use Rattle.bip_explain.proofs.FrontLemmas.{AreTwo, IsLeft}
use Rattle.bip_explain.proofs.ends.member_again.Given as goal

abbrev pub invariant-loop-member : goal.invariant-loop-member
invariant-loop-member l = record {
  line : l.member-iterator.line.now ≡ l.line;
  left : IsLeft AreTwo l.line (words l.member-iterator.rest.now);
}
