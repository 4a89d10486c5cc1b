use Rattle.std.proofs.Common.{◌≡◌, ◌∷◌, [], false, refl, sym, ◌∙◌}
use Rattle.std.proofs.lemmas.Bool.{false≢true}
use Rattle.bip_explain.specs.Limits.{begins_list}
use Rattle.bip_explain.proofs.LimitLemmas.{no_list}
use Rattle.bip_explain.proofs.SaidLemmas.{where_none}
use Rattle.bip_explain.proofs.limits.find_list.Goals as goal

pub returns-then-has_lists-clause-some : goal.returns-then-has_lists-clause-some
returns-then-has_lists-clause-some c = λ text number.
    let keyword = c.args.keyword.now in
    let plain : begins_list keyword ≡ false =
    no_list keyword (sym c.has_lists.ensures ∙ c.if-has_lists.true) in
    c.find_long.ensures.some text number (keyword ∷ []) c.requires (rw plain refl)

pub returns-then-has_lists-clause-none : goal.returns-then-has_lists-clause-none
returns-then-has_lists-clause-none c = where_none c.find_long.result
    (λ short listed. short) c.find_long.ensures.none

pub returns-else-has_lists-clause-none : goal.returns-else-has_lists-clause-none
returns-else-has_lists-clause-none c = λ listed.
    absurd (false≢true (sym (sym c.has_lists.ensures ∙ c.if-has_lists.false) ∙ listed))
