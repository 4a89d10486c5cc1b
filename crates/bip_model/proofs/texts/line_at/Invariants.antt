use Rattle.std.proofs.Common.{◌≡◌}
use Rattle.bip_model.specs.Texts.{line_at, line_in}
use Rattle.bip_model.proofs.texts.line_at.Given as goal

abbrev pub invariant-loop-at : goal.invariant-loop-at
invariant-loop-at l = line_at l.text l.number ≡ line_in l.at-iterator l.number
