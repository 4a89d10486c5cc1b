use Rattle.std.proofs.Common.{arith}
use Rattle.bip_bank.proofs.StationLemmas.{few_stations}
use Rattle.bip_bank.proofs.idleness.first_asked.Goals as goal

pub overflow_cast-place : goal.overflow_cast-place
overflow_cast-place c =
    let few = few_stations c.args.plan.now c.stations-count.result.now c.recall.ensures.valid
    c.stations-count.ensures in
    omega (arith, few, c.loop-place-test.true, c.loop-place.auto.place-end)

pub returns-clause-between : goal.returns-clause-between
returns-clause-between c = λ s low high. c.loop-place.invariant s low
    (omega (arith, low, high, c.loop-place-test.false, c.loop-place.auto.place-end, c.max.ensures))
