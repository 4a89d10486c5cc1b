use Rattle.std.proofs.Common.{◌∙◌, refl, sym}
use Rattle.bip_model.proofs.scopes.Scope.knows_sum.Goals as goal

pub returns-then-knows_term : goal.returns-then-knows_term
returns-then-knows_term c = rw (
  ← c.sum.view_is,
  sym c.knows_term.ensures ∙ c.if-knows_term.true,
  c.knows_terms.ensures,
  c.each.ensures,
) refl
