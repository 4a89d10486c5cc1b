use Rattle.std.proofs.Common.{◌≡◌, ◌++◌}
use Rattle.bip_model.specs.Scopes.{assignments_with, variable_in}
use Rattle.bip_model.proofs.scopes.Scope.assignments.Given as goal

abbrev pub invariant-loop-assignment : goal.invariant-loop-assignment
invariant-loop-assignment l = l.all.items ++ assignments_with
    (variable_in l.self) l.assignment-iterator ≡ assignments_with
    (variable_in l.self) l.fn.assignments
