use Rattle.std.proofs.Common.{refl, sym}
use Rattle.bip_forks.proofs.StationLemmas.{first_there}
use Rattle.bip_forks.proofs.stations.is_waiting.Goals as goal

pub returns-in-Some : goal.returns-in-Some
returns-in-Some c = (
  λ yes. let rest = first_there c.args.waiting.now c.in-Some.field-0.now (sym c.in-Some.ensures) in (
    c.in-Some.field-0.now,
    rest.0,
    rest.1,
  ),
  λ has. refl,
)
