use Rattle.bip_host.specs.Layers.{NoneDecides}
use Rattle.bip_host.proofs.layers.StationDesk.station_of.Given as goal

abbrev pub invariant-loop-number : goal.invariant-loop-number
invariant-loop-number l = NoneDecides l.inter l.self.stations.now l.number
