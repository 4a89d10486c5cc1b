use Rattle.bip_review.specs.Writing.{AddsLines, IsLineOfStation}
use Rattle.bip_review.proofs.writing.write_stations.Given as goal

abbrev pub invariant-loop-station : goal.invariant-loop-station
invariant-loop-station l = AddsLines (IsLineOfStation l.plan l.stations) l.initial.text.items
    l.station-index l.text.items
