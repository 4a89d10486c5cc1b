use Rattle.std.specs.Prelude.{◌≡◌, take, map}
use Rattle.bip_table.specs.Closing.{greatest}
use Rattle.bip_table.specs.Passes.{shown_at}
use Rattle.bip_table.proofs.closing.greatest_shown.Given as goal

abbrev pub invariant-loop-pass : goal.invariant-loop-pass
invariant-loop-pass g l = l.most ≡ greatest (map (λ p. shown_at p.tallies l.comp.0)
    (take l.pass-index l.passes))
