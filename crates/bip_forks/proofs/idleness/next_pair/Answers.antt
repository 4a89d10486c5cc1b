use Rattle.std.proofs.Common.{◌≡◌, ◌∙◌, arith, length, subst}
use Rattle.std.proofs.lemmas.List.{get_or_default}
use Rattle.bip_forks.proofs.IdlenessLemmas.{row_passed}
use Rattle.bip_forks.specs.Idleness.{IsIdleExchange, IsIdleWith}
use Rattle.bip_forks.specs.Kept.{no_station, station_at}
use Rattle.bip_forks.specs.Stations.{KeptStation}
use Rattle.bip_forks.proofs.idleness.next_pair.Goals as goal

pub returns-then-next-count-clause-passed : goal.returns-then-next-count-clause-passed
returns-then-next-count-clause-passed c = λ k low high within.
    let n = length c.args.stations.now in
    let row : c.index-stations-row.result ≡ station_at c.args.stations.now c.loop-row.row =
    c.index-stations-row.is
    ∙ get_or_default c.args.stations.now c.loop-row.row c.index-stations-row.result no_station
    c.loop-row-test.true in
    row_passed (IsIdleWith c.args.exchange c.args.stations.now) n c.loop-row.row c.loop-row.to
    c.next_with-next.result c.args.from (omega (arith, c.if-next-count.true))
    c.loop-row.invariant.2
    (λ t first last. subst (λ (s : KeptStation). IsIdleExchange c.args.exchange s t) row
    (c.next_with-next.ensures.passed t first last)) k low high

pub loop-row-preserved : goal.loop-row-preserved
loop-row-preserved c =
    let n = length c.args.stations.now in
    let row : c.index-stations-row.result ≡ station_at c.args.stations.now c.loop-row.row =
    c.index-stations-row.is
    ∙ get_or_default c.args.stations.now c.loop-row.row c.index-stations-row.result no_station
    c.loop-row-test.true in (
      omega (arith, c.loop-row.invariant.0),
      omega (arith, c.loop-row.invariant.0, c.loop-row.invariant.1),
      λ k low high. row_passed (IsIdleWith c.args.exchange c.args.stations.now) n c.loop-row.row
          c.loop-row.to n c.args.from (omega arith) c.loop-row.invariant.2
          (λ t first last. subst (λ (s : KeptStation). IsIdleExchange c.args.exchange s t) row
          (c.next_with-next.ensures.passed t first (omega (arith, last, c.if-next-count.false))))
          k low (omega (arith, high)),
    )
