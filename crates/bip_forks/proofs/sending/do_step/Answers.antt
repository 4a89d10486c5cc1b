use Rattle.std.proofs.Common.{refl}
use Rattle.bip_forks.proofs.sending.do_step.Goals as goal

pub returns-in-Err : goal.returns-in-Err
returns-in-Err c = record {
  does = tt;
  memory = c.in-Err.ensures.memory c.args.grants.now.items;
  stations = c.in-Err.ensures.stations;
  flight = c.in-Err.ensures.flight;
  grants = refl;
}
