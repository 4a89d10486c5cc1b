use Rattle.std.proofs.Common.{◌≡◌, drop}
use Rattle.bip_model.specs.Texts.{is_plain}
use Rattle.bip_explain.proofs.forms.find_byte.Given as goal

abbrev pub invariant-loop-place : goal.invariant-loop-place
invariant-loop-place l = is_plain l.line ≡ is_plain (drop l.place l.line)
