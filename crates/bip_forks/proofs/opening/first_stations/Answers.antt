use Rattle.std.proofs.Common.{◌≡◌, ◌+◌, ◌∷◌, ◌++◌, [], rules, sym, subst}
use Rattle.bip_forks.proofs.OpeningLemmas.{one_station}
use Rattle.bip_forks.specs.Opening.{AreFirstStations}
use Rattle.bip_forks.proofs.opening.first_stations.Goals as goal

pub loop-place-preserved : goal.loop-place-preserved
loop-place-preserved c =
    let more : c.push.new.self.items ≡ c.loop-place.stations.items ++ c.in_ok-first_station.field-0
    ∷ [] = search rules in
    subst (AreFirstStations c.args.plan.now c.args.base c.args.inters.now (c.loop-place.place + 1))
    (sym more)
    (one_station c.args.plan.now c.args.base c.args.inters.now _ c.loop-place.place
    c.loop-place.stations.items c.in_ok-first_station.field-0 c.loop-place.invariant
    c.loop-place-test.true c.in_ok-first_station.ensures)
