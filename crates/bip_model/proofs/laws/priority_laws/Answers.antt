use Rattle.bip_model.proofs.AboveLemmas.{HasAbove-trans}
use Rattle.bip_model.proofs.LookLemmas.{may_run_is_local, something_may_run}
use Rattle.bip_model.proofs.laws.priority_laws.Goals as goal

pub returns : goal.returns
returns c = record {
  above = λ pairs a b k. HasAbove-trans;
  something = something_may_run;
  local = may_run_is_local;
}
