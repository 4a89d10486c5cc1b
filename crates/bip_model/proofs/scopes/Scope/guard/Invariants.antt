use Rattle.std.proofs.Common.{◌≡◌, ◌++◌}
use Rattle.bip_model.specs.Scopes.{guard_with, variable_in}
use Rattle.bip_model.proofs.scopes.Scope.guard.Given as goal

abbrev pub invariant-loop-comparison : goal.invariant-loop-comparison
invariant-loop-comparison l = l.comparisons.items ++ guard_with
    (variable_in l.self) l.comparison-iterator ≡ guard_with (variable_in l.self) l.fn.guard
