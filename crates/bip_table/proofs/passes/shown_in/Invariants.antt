use Rattle.std.proofs.Common.{◌≡◌, drop}
use Rattle.bip_table.specs.Passes.{shown_at}
use Rattle.bip_table.proofs.passes.shown_in.Given as goal

abbrev pub invariant-loop-tally : goal.invariant-loop-tally
invariant-loop-tally l = shown_at l.tallies l.comp.0 ≡ shown_at
    (drop l.tally-index l.tallies) l.comp.0
