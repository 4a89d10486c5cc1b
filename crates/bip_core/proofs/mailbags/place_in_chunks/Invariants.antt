use Rattle.std.proofs.Common.{◌≡◌, ◌+◌, length, take}
use Rattle.std.specs.List.{flat_map}
use Rattle.bip_core.specs.Mailbags.{of_chunk}
use Rattle.bip_core.proofs.mailbags.place_in_chunks.Given as goal

abbrev pub invariant-loop-piece : goal.invariant-loop-piece
invariant-loop-piece l = length (flat_map of_chunk (take l.piece l.chunks)) + l.within ≡ l.before
