use Rattle.std.proofs.Common.{ℕ, List, position, sym, ap, ◌∙◌, subst}
use Rattle.std.proofs.lemmas.Bool.{false≢true}
use Rattle.bip_model.specs.Naming.{IsName, same_text}
use Rattle.bip_explain.proofs.HindranceLemmas.{declared_inter, grant_names, not_none, second_word}
use Rattle.bip_explain.proofs.HindranceLemmas.{silent_names}
use Rattle.bip_explain.proofs.grants.interaction_on.Goals as goal

pub returns-in_err-of-clause-named : goal.returns-in_err-of-clause-named
returns-in_err-of-clause-named c = λ g reads.
    let n = grant_names c.args.model.now c.args.line.now g reads in
    let word = second_word _ _ _ _ (c.in_ok-_grant.ensures ∙ n.said) in
    absurd (false≢true (c.in_err-of.ensures.exact.1 (subst IsName (sym word) n.name)))

pub returns-clause-declared : goal.returns-clause-declared
returns-clause-declared c = declared_inter c.args.model.now c.in_ok-of.field-0 c.interaction.result
    c.recall.ensures.valid c.interaction.ensures

pub returns-clause-named : goal.returns-clause-named
returns-clause-named c = λ g reads.
    let n = grant_names c.args.model.now c.args.line.now g reads in
    let word = second_word _ _ _ _ (c.in_ok-_grant.ensures ∙ n.said) in
    c.interaction.ensures ∙ (ap (λ (w : List ℕ). position
    (same_text w) c.args.model.now.interaction_names) (c.in_ok-of.ensures.name ∙ word)
    ∙ n.place)

pub returns-clause-silent : goal.returns-clause-silent
returns-clause-silent c = λ none. absurd (not_none c.in_ok-_grant._grant.now c.in_ok-_grant.word.now
    (c.in_ok-_grant.ensures ∙ silent_names c.args.model.now c.args.line.now none))
