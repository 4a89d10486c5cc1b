use Rattle.std.proofs.Common.{◌≡◌, is_some, length}
use Rattle.bip_model.specs.Clauses.{pairs_form, signed_term_form}
use Rattle.bip_model.proofs.clauses.are_signed_terms.Given as goal

abbrev pub invariant-loop-sign : goal.invariant-loop-sign
invariant-loop-sign l = is_some (pairs_form (signed_term_form l.spelling) l.rest) ≡ is_some
    (pairs_form (signed_term_form l.spelling) l.words)

abbrev pub decreases-loop-sign : goal.decreases-loop-sign
decreases-loop-sign l = length l.rest
