use Rattle.bip_core.proofs.RepeatRunLemmas.{one_new_world, one_run}
use Rattle.bip_core.proofs.laws.repeat_laws.Goals as goal

pub returns-clause-new : goal.returns-clause-new
returns-clause-new c = one_new_world

pub returns-clause-run : goal.returns-clause-run
returns-clause-run c = one_run
