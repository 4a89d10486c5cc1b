use Rattle.std.specs.Prelude.{◌≡◌}
use Rattle.bip_tests.proofs.tests.charting.draw.Given as goal

abbrev pub invariant-loop-grant : goal.invariant-loop-grant
invariant-loop-grant g l = l.chart.excerpt.most ≡ 2000
