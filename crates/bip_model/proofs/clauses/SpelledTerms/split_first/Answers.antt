use Rattle.std.proofs.Common.{◌≡◌, ◌∙◌, List, Option, refl, sym}
use Rattle.bip_model.specs.declared.expressions.Sign.{Sign}
use Rattle.bip_model.specs.declared.expressions.Term.{Term}
use Rattle.bip_model.specs.declared.scopes.VariableName.{VariableName}
use Rattle.bip_model.specs.Clauses.{pairs_form, signed_term_form}
use Rattle.bip_model.proofs.ClauseLemmas.{first_lent, first_of, rest_lent, some_first}
use Rattle.bip_model.proofs.clauses.SpelledTerms.split_first.Goals as goal

abbrev Terms : Type 0
Terms = Option (List (Sign × Term VariableName))

pub returns-in_err-first-clause-none : goal.returns-in_err-first-clause-none
returns-in_err-first-clause-none c =
    let f = signed_term_form c.self.inside.spelling in
    let x = f c.in_ok-sign.sign.now c.in_ok-term.term.now in
    let rest : Terms = pairs_form f c.in_ok-term.words in
    let whole : Terms = pairs_form f c.self.inside.words in
    let is : whole ≡ first_of x rest = rw (c.in_ok-sign.ensures.some, c.in_ok-term.ensures.some)
    refl in
    absurd (some_first x rest whole is c.self.invariant
    (sym c.signed_term.ensures ∙ c.in_err-first.was))

pub invariant_of-rest : goal.invariant_of-rest
invariant_of-rest c =
    let f = signed_term_form c.self.inside.spelling in
    let x = f c.in_ok-sign.sign.now c.in_ok-term.term.now in
    let rest : Terms = pairs_form f c.in_ok-term.words in
    let whole : Terms = pairs_form f c.self.inside.words in
    let is : whole ≡ first_of x rest = rw (c.in_ok-sign.ensures.some, c.in_ok-term.ensures.some)
    refl in
    rest_lent x rest whole is c.self.invariant

pub returns-clause-some : goal.returns-clause-some
returns-clause-some c =
    let f = signed_term_form c.self.inside.spelling in
    let x = f c.in_ok-sign.sign.now c.in_ok-term.term.now in
    let rest : Terms = pairs_form f c.in_ok-term.words in
    let whole : Terms = pairs_form f c.self.inside.words in
    let is : whole ≡ first_of x rest = rw (c.in_ok-sign.ensures.some, c.in_ok-term.ensures.some)
    refl in
    sym c.self.view_is ∙ first_lent x rest whole is c.self.invariant c.in_ok-first.first
    (sym c.signed_term.ensures ∙ c.in_ok-first.was)
