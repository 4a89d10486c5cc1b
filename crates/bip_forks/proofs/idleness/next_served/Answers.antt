use Rattle.std.proofs.Common.{◌≡◌, ◌∙◌, arith, inl, inr, subst}
use Rattle.std.proofs.lemmas.Bool.{cases_lt}
use Rattle.std.proofs.lemmas.List.{get_or_default}
use Rattle.bip_forks.specs.Idleness.{IsUnservedHere}
use Rattle.bip_forks.specs.Kept.{no_station, station_at}
use Rattle.bip_forks.specs.Stations.{IsUnserved, KeptStation}
use Rattle.bip_forks.proofs.idleness.next_served.Goals as goal

pub loop-place-preserved : goal.loop-place-preserved
loop-place-preserved c = λ s low high. elim (cases_lt s c.loop-place.place) [
  | inl first ↦ c.loop-place.invariant s low first
  | inr later ↦
      let station : c.index-stations-place.result
      ≡ station_at c.args.stations.now c.loop-place.place = c.index-stations-place.is
      ∙ get_or_default c.args.stations.now c.loop-place.place c.index-stations-place.result
      no_station c.loop-place-test.true in
      subst (IsUnservedHere c.args.stations.now) (omega (arith, later, high)) (
        c.in-Some._why,
        subst (λ (k : KeptStation). IsUnserved k c.in-Some._why) station c.in-Some.ensures.some,
      )
]
