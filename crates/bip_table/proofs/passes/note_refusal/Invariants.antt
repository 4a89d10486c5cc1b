use Rattle.std.proofs.Common.{◌≡◌, ◌++◌, drop, map, take}
use Rattle.bip_table.specs.Passes.{tally_after_refusal}
use Rattle.bip_table.proofs.passes.note_refusal.Given as goal

abbrev pub invariant-loop-place : goal.invariant-loop-place
invariant-loop-place l = l.tallies ≡ map (tally_after_refusal l.comp.0 l.used)
    (take l.place l.initial.tallies) ++ drop l.place l.initial.tallies
