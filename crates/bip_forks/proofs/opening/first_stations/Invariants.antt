use Rattle.bip_forks.specs.Opening.{AreFirstStations}
use Rattle.bip_forks.proofs.opening.first_stations.Given as goal

abbrev pub invariant-loop-place : goal.invariant-loop-place
invariant-loop-place l = AreFirstStations l.plan l.base l.inters l.place l.stations.items
