use Rattle.std.proofs.Common.{refl, rules}
use Rattle.std.proofs.lemmas.Iterator.Consumers.{YieldsList-from_first}
use Rattle.std.proofs.lemmas.Iterator.Search.{all_from_yields_List}
use Rattle.bip_model.specs.Scopes.{knows_term}
use Rattle.bip_model.specs.declared.expressions.Sign.{Sign}
use Rattle.bip_model.specs.declared.expressions.Term.{Term}
use Rattle.bip_model.specs.declared.scopes.VariableName.{VariableName}
use Rattle.bip_model.specs.Scopes.{variable_in}
use Rattle.bip_model.proofs.scopes.Scope.knows_terms.Goals as goal

pub returns : goal.returns
returns c = all_from_yields_List (λ (t : Sign × Term VariableName). knows_term
    (variable_in c.args.self.now) t.1) _ _ _ c.all.ensures.ran
    (YieldsList-from_first (λ x. x) (λ left. left) c.args.terms refl) (λ x b q k. search rules)
