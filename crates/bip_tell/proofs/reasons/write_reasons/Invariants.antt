use Rattle.std.proofs.Common.{◌≡◌, ◌++◌, drop}
use Rattle.std.specs.List.{flat_map}
use Rattle.bip_tell.specs.Reasons.{told_reason}
use Rattle.bip_tell.proofs.reasons.write_reasons.Given as goal

abbrev pub invariant-loop-place : goal.invariant-loop-place
invariant-loop-place l =
    l.text.items ++ flat_map (told_reason l.model) (drop l.place l.reasons)
    ≡ l.initial.text.items ++ flat_map (told_reason l.model) l.reasons
