use Rattle.std.proofs.Common.{◌&&◌, is_some, refl, rules}
use Rattle.std.proofs.lemmas.Iterator.Consumers.{YieldsList-from_first}
use Rattle.std.proofs.lemmas.Iterator.Search.{all_from_yields_List}
use Rattle.bip_model.specs.Scopes.{knows_sum}
use Rattle.bip_model.specs.declared.expressions.Assignment.{Assignment}
use Rattle.bip_model.specs.declared.scopes.VariableName.{VariableName}
use Rattle.bip_model.specs.Scopes.{variable_in}
use Rattle.bip_model.proofs.scopes.Scope.knows_assignments.Goals as goal

pub returns : goal.returns
returns c = all_from_yields_List (λ (x : Assignment VariableName). is_some
    (variable_in c.args.self.now x.target) && knows_sum (variable_in c.args.self.now) x.sum) _ _ _
    c.all.ensures.ran (YieldsList-from_first (λ x. x) (λ left. left) c.args.assignments refl)
    (λ x b q k. search rules)
