use Rattle.bip_model.specs.Steps.{start_of}
use Rattle.bip_replay.proofs.RunLemmas.{IsHistory-from_run, IsRun-from_grants, IsRunFrom-parts}
use Rattle.bip_replay.proofs.RunLemmas.{by_steps, counts_moves, end_of-push, grants-back, numbered}
use Rattle.bip_replay.proofs.FaultLemmas.{run_of_model}
use Rattle.bip_replay.proofs.laws.run_laws.Goals as goal

pub returns : goal.returns
returns c =
    record {
      ends = c.step_laws.ensures.end;
      runs = c.step_laws.ensures.run;
      states = λ m. end_of-push m (start_of m);
      numbers = c.history_laws.ensures.used_on;
      grants = grants-back;
      beginnings = λ m base gs hs run. (IsRunFrom-parts m (start_of m) (λ _. base) gs hs run).0;
      by_steps = by_steps;
      steps = λ m base. IsRun-from_grants m (start_of m) (λ _. base);
      of_model = λ m base. run_of_model m (start_of m) (λ _. base);
      histories = λ m base. IsHistory-from_run m (start_of m) (λ _. base);
      once = λ m base gs run. c.history_laws.ensures.once (λ _. base) gs
          (IsHistory-from_run m (start_of m) (λ _. base) gs run);
      counts = λ m base. counts_moves m (start_of m) (λ _. base);
      numbered = numbered;
    }
