use Rattle.std.proofs.Common.{◌≡◌, drop}
use Rattle.bip_table.specs.Passes.{count_at}
use Rattle.bip_table.proofs.passes.count_in.Given as goal

abbrev pub invariant-loop-tally : goal.invariant-loop-tally
invariant-loop-tally l = count_at l.tallies l.comp.0 ≡ count_at
    (drop l.tally-index l.tallies) l.comp.0
