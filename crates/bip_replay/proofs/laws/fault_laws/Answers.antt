use Rattle.bip_replay.proofs.FaultLawLemmas.{no_run, one_first, one_step, run_or_fault}
use Rattle.bip_replay.proofs.RunLemmas.{next_or_fault, not_next}
use Rattle.bip_replay.proofs.laws.fault_laws.Goals as goal

pub returns : goal.returns
returns c = record {
  refused = not_next;
  one_fault = one_step;
  either = next_or_fault;
  first = no_run;
  one = one_first;
  answered = run_or_fault;
}
