use Rattle.std.proofs.Common.{[], List, ℕ}
use Rattle.bip_model.specs.declared.grants.Grant.{Grant}
use Rattle.bip_draw.specs.Charts.{HasDrawn, IsChartOn}
use Rattle.bip_answers.proofs.ChartLemmas.{DrawnSoFar}
use Rattle.bip_answers.proofs.charted.follow.Given as goal

abbrev pub invariant-loop-number : goal.invariant-loop-number
invariant-loop-number l =
    record {
      on : IsChartOn l.initial.chart.model l.initial.chart.classes l.initial.chart.excerpt l.chart;
      drawn : (base : ℕ) → HasDrawn base [] l.initial.chart
          → (gs : List Grant) × DrawnSoFar base l.trace gs l.chart l.number-iterator;
    }
