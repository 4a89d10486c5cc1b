use Rattle.std.proofs.Common.{◌≡◌, take, true}
use Rattle.bip_model.specs.Expressions.{holds}
use Rattle.bip_explain.proofs.hindrances.find_failed.Given as goal

abbrev pub invariant-loop-place : goal.invariant-loop-place
invariant-loop-place l = holds (take l.place l.guard) l.values ≡ true
