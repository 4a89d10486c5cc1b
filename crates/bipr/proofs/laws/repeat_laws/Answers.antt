use Rattle.bipr.proofs.RepeatLemmas.{one_steps_answer, one_trace_of_a_seed, records_are_steps}
use Rattle.bipr.proofs.RepeatLemmas.{seeds_are_steps, told_or_not}
use Rattle.bipr.proofs.laws.repeat_laws.Goals as goal

pub returns : goal.returns
returns c = record {
  steps = one_steps_answer;
  told = told_or_not;
  seeds = one_trace_of_a_seed;
  seed_steps = seeds_are_steps;
  record_steps = records_are_steps;
}
