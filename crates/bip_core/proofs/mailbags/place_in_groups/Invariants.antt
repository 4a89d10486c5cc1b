use Rattle.std.proofs.Common.{◌≡◌, ◌+◌, length, take}
use Rattle.std.specs.List.{flat_map}
use Rattle.bip_core.specs.Mailbags.{of_group}
use Rattle.bip_core.proofs.mailbags.place_in_groups.Given as goal

abbrev pub invariant-loop-piece : goal.invariant-loop-piece
invariant-loop-piece l = length (flat_map of_group (take l.piece l.groups)) + l.within ≡ l.before
