use Rattle.std.proofs.Common.{rules}
use Rattle.bip_model.proofs.ExpressionLemmas.{counts-transferred}
use Rattle.bip_model.proofs.expressions.+transfer.Goals as goal

pub set_variable-requires : goal.set_variable-requires
set_variable-requires t c = rw (c.transfer.ensures, counts-transferred) (search rules)
