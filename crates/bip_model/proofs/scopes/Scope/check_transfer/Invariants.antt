use Rattle.bip_model.specs.Scopes.{variable_in}
use Rattle.bip_model.proofs.TransferLemmas.{IsCheckedSoFar}
use Rattle.bip_model.proofs.scopes.Scope.check_transfer.Given as goal

abbrev pub invariant-loop-assignment : goal.invariant-loop-assignment
invariant-loop-assignment l = IsCheckedSoFar (variable_in l.self) l.fn.transfer
    l.assignment-iterator l.targets
