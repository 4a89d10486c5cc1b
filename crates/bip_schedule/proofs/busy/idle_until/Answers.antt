use Rattle.std.proofs.Common.{subst, sym}
use Rattle.bip_partition.specs.Plans.{AreStations, Planned}
use Rattle.bip_schedule.proofs.busy.idle_until.Goals as goal

pub returns-in-Step-clause-idle : goal.returns-in-Step-clause-idle
returns-in-Step-clause-idle g c = λ i low high.
    let stations = c.requires.counted.0 in
    let listed = subst (λ (p : Planned). AreStations p stations)
    (sym c.recall.ensures.agrees.nodes.bank) c.requires.counted.1 in
    rw (c.in-Step.is, ← c.requires.counted.2, ← c.bank.ensures)
    (c.idle_until.ensures.idle stations (rw c.bank.ensures listed) i low high)
