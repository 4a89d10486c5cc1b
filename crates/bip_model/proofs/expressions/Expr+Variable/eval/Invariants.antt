use Rattle.std.proofs.Common.{◌≡◌, take}
use Rattle.bip_model.specs.Expressions.{all_joined, term_value}
use Rattle.bip_model.proofs.expressions.Expr+Variable.eval.Given as goal

abbrev pub invariant-loop-sign : goal.invariant-loop-sign
invariant-loop-sign l = l.sum ≡ all_joined l.values (term_value l.values l.self.first)
    (take l.sign-index l.sign-items)
