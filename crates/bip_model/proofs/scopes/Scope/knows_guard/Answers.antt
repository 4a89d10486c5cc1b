use Rattle.std.proofs.Common.{◌&&◌, refl, rules}
use Rattle.std.proofs.lemmas.Iterator.Consumers.{YieldsList-from_first}
use Rattle.std.proofs.lemmas.Iterator.Search.{all_from_yields_List}
use Rattle.bip_model.specs.Scopes.{knows_sum}
use Rattle.bip_model.specs.declared.expressions.Comparison.{Comparison}
use Rattle.bip_model.specs.declared.scopes.VariableName.{VariableName}
use Rattle.bip_model.specs.Scopes.{variable_in}
use Rattle.bip_model.proofs.scopes.Scope.knows_guard.Goals as goal

pub returns : goal.returns
returns c = all_from_yields_List (λ (x : Comparison VariableName). knows_sum
    (variable_in c.args.self.now) x.left && knows_sum (variable_in c.args.self.now) x.right) _ _ _
    c.all.ensures.ran (YieldsList-from_first (λ x. x) (λ left. left) c.args.guard refl)
    (λ x b q k. search rules)
