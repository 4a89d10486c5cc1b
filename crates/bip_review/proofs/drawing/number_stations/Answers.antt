use Rattle.std.proofs.Common.{◌<◌, ℕ, get_or, length, subst, sym}
use Rattle.std.proofs.lemmas.List.{get_or-map}
use Rattle.bip_model.specs.declared.numbering.InterId.{InterId}
use Rattle.bip_partition.proofs.TableLemmas.{reserved_known}
use Rattle.bip_review.specs.Drawing.{station_label}
use Rattle.bip_review.proofs.DrawingLemmas.{one_number}
use Rattle.bip_review.proofs.StationLemmas.{station_reserved}
use Rattle.bip_review.proofs.drawing.number_stations.Goals as goal

pub number_station-requires-clause-known : goal.number_station-requires-clause-known
number_station-requires-clause-known c =
    let none : InterId = record { 0 = 0 } in
    subst (λ (a : ℕ). a < length c.args.plan.now.model.interactions)
    (sym (get_or-map (λ (a : InterId). a.0) c.args.stations.now c.loop-number.number none 0
    c.loop-number-test.true))
    (reserved_known c.args.plan.now (get_or c.args.stations.now c.loop-number.number none).0
    c.recall.ensures.valid
    (station_reserved c.args.plan.now c.args.stations.now c.loop-number.number none c.requires
    c.loop-number-test.true))

pub loop-number-preserved : goal.loop-number-preserved
loop-number-preserved c =
    one_number (station_label c.args.plan.now c.args.stations.now)
    c.loop-number.number c.args.text.now.items c.loop-number.text.items
    c.number_station.new.text.items c.loop-number.invariant c.in_ok-number_station.ensures
