use Rattle.std.proofs.Common.{◌≡◌, ◌++◌, drop, map, take}
use Rattle.bip_table.specs.Passes.{tally_after_grant}
use Rattle.bip_table.proofs.passes.note_grant.Given as goal

abbrev pub invariant-loop-place : goal.invariant-loop-place
invariant-loop-place l = l.tallies ≡ map (tally_after_grant l.wants)
    (take l.place l.initial.tallies) ++ drop l.place l.initial.tallies
