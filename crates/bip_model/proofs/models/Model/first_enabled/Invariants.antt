use Rattle.std.proofs.Common.{ℕ, ◌<◌, get_or}
use Rattle.bip_model.specs.declared.numbering.InterId.{InterId}
use Rattle.bip_model.specs.States.{state_of}
use Rattle.bip_model.specs.Steps.{IsEnabled}
use Rattle.bip_model.proofs.models.Model.first_enabled.Given as goal

abbrev pub invariant-loop-higher : goal.invariant-loop-higher
invariant-loop-higher l =
    (k : ℕ) (d : InterId) → k < l.higher-index
    → ¬ IsEnabled l.self (state_of l.state) (get_or l.above k d).0
