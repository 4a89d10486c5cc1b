use Rattle.std.proofs.Common.{ℕ}
use Rattle.bip_model.specs.States.{IsStateOf, state_of}
use Rattle.bip_explain.proofs.HindranceLemmas.{IsStateSoFar}
use Rattle.bip_explain.proofs.hindrances.state_before.Given as goal

abbrev pub invariant-loop-number : goal.invariant-loop-number
invariant-loop-number l = record {
  of_model : IsStateOf l.model (state_of l.state);
  so_far : (base : ℕ) → IsStateSoFar l.model base l.text l.line
      (state_of l.state) l.number-iterator;
}
