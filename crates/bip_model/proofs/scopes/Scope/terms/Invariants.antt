use Rattle.std.proofs.Common.{◌≡◌, ◌++◌, map}
use Rattle.bip_model.specs.Scopes.{term_with, variable_in, variable_of}
use Rattle.bip_model.specs.declared.expressions.Sign.{Sign}
use Rattle.bip_model.specs.declared.expressions.Term.{Term}
use Rattle.bip_model.specs.declared.scopes.VariableName.{VariableName}
use Rattle.bip_model.proofs.scopes.Scope.terms.Given as goal

abbrev pub invariant-loop-term : goal.invariant-loop-term
invariant-loop-term l =
    l.all.items ++ map (λ (t : Sign × Term VariableName).
    (t.0, term_with (variable_of (variable_in l.self)) t.1)) l.term-iterator
    ≡ map (λ (t : Sign × Term VariableName). (
      t.0,
      term_with (variable_of (variable_in l.self)) t.1,
    )) l.fn.terms
