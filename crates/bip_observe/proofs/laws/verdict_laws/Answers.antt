use Rattle.bip_observe.proofs.ReasonLemmas.{one_reasons_each, reasons_sound, reasons_suffice}
use Rattle.bip_observe.proofs.ShowLemmas.{may_run_ready, offered_values, ready_means}
use Rattle.bip_observe.proofs.VerdictLemmas.{one_verdict, some_verdict, verdicts_true}
use Rattle.bip_observe.proofs.laws.verdict_laws.Goals as goal

pub returns : goal.returns
returns c = record {
  ready = ready_means;
  may = may_run_ready;
  values = offered_values;
  sound = reasons_sound;
  suffice = reasons_suffice;
  reasons = one_reasons_each;
  true_of =
      verdicts_true;
  one = one_verdict;
  some = some_verdict;
}
