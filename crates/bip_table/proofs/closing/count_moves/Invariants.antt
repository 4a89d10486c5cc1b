use Rattle.std.proofs.Common.{◌≡◌, ◌≤◌, take}
use Rattle.bip_table.specs.Closing.{moves_of}
use Rattle.bip_table.proofs.closing.count_moves.Given as goal

abbrev pub invariant-loop-grant : goal.invariant-loop-grant
invariant-loop-grant l = (l.count ≡ moves_of (take l.grant-index l.journal) l.comp.0)
    × (l.count ≤ l.grant-index)
