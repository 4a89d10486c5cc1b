use Rattle.std.proofs.Common.{refl}
use Rattle.bip_model.proofs.scopes.Scope.sum.Goals as goal

pub returns : goal.returns
returns c = rw (← c.sum.view_is, c.term.ensures, c.in_ok-terms.ensures, c.each.ensures) refl
