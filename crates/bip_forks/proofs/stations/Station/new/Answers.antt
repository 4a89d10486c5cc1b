use Rattle.std.proofs.Common.{◌≡◌, ◌∙◌, ℕ, zero, suc, ◌<◌, ◌≤◌, List, [], ◌∷◌, None, Some, arith}
use Rattle.std.proofs.Common.{length, slice_get, subst, sym}
use Rattle.std.proofs.lemmas.Option.{get_or_from_slice_get, slice_get_within}
use Rattle.bip_model.specs.declared.numbering.InterId.{InterId}
use Rattle.bip_bank.proofs.StationLemmas.{few_stations}
use Rattle.bip_forks.proofs.OpeningLemmas.{stations_known}
use Rattle.bip_forks.proofs.stations.Station.new.Goals as goal

-- where nothing stands, the list has ended
missing : (inters : List InterId) (k : ℕ) → slice_get inters k ≡ None → length inters ≤ k
missing [] k none = omega arith
missing (a ∷ rest) zero none = cc
missing (a ∷ rest) (suc k) none = let below = missing rest k none in omega arith

pub first_station-requires-clause-known : goal.first_station-requires-clause-known
first_station-requires-clause-known c = stations_known c.args.plan.now c.stations-inters.result.now
    c.recall.ensures.valid c.stations-inters.ensures

pub first_station-requires-clause-few : goal.first_station-requires-clause-few
first_station-requires-clause-few c = few_stations c.args.plan.now c.stations-inters.result.now
    c.recall.ensures.valid c.stations-inters.ensures

pub first_station-requires-clause-here : goal.first_station-requires-clause-here
first_station-requires-clause-here c =
    let inters = c.stations-inters.result.now in
    let inter = c.in-Some.inter in
    let here : slice_get inters c.args.number.0 ≡ Some inter = sym c.interaction_at.ensures
    ∙ c.in-Some.is in
    subst (λ (a : InterId). a.0 < length c.args.plan.now.model.interactions)
    (get_or_from_slice_get inters c.args.number.0 inter inter here)
    (stations_known c.args.plan.now inters c.recall.ensures.valid c.stations-inters.ensures
    c.args.number.0 inter (slice_get_within inters c.args.number.0 inter here))

pub returns-in-None-clause-none : goal.returns-in-None-clause-none
returns-in-None-clause-none c =
    let inters = c.stations-inters.result.now in
    let past : length inters ≤ c.args.number.0 =
    missing inters c.args.number.0 (sym c.interaction_at.ensures ∙ c.in-None.is) in
    record { stations = inters; listed = c.stations-inters.ensures; past = past }
