use Rattle.std.proofs.Common.{refl, rules}
use Rattle.bip_explain.proofs.FrontLemmas.{station_named}
use Rattle.bip_explain.proofs.schedules.reason_of_station.Goals as goal

pub returns-in-None-clause-some : goal.returns-in-None-clause-some
returns-in-None-clause-some c = λ line at. (
  (
    (
      c.in_ok-name.ensures.exact.0 refl,
      (at.0, station_named at.0.front at.1),
    ),
    search rules,
    search rules,
  ),
  refl,
)
