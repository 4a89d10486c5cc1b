use Rattle.std.proofs.Common.{ap, length, ◌∙◌}
use Rattle.bip_model.specs.Clauses.{signed_term_form}
use Rattle.bip_model.proofs.ClauseLemmas.{lent_half}
use Rattle.bip_model.proofs.clauses.SpelledTerms.len.Goals as goal

pub returns : goal.returns
returns c = rw c.len.ensures (lent_half (signed_term_form c.self.inside.spelling)
    c.self.inside.words c.self.invariant ∙ ap length c.self.view_is)
