use Rattle.std.proofs.Common.{◌≡◌, [], inr, refl, true}
use Rattle.bip_model.specs.declared.clauses.Spelling.TheVariants.{Own}
use Rattle.bip_model.specs.Texts.{words}
use Rattle.bip_explain.specs.Expected.{takes_all}
use Rattle.bip_explain.specs.Forms.{IsFormReason}
use Rattle.bip_explain.specs.Traces.{IsGrantWords}
use Rattle.bip_explain.specs.declared.expected.Expected.TheVariants.{Grant}
use Rattle.bip_explain.proofs.SaidLemmas.{no_syntax, where_none}
use Rattle.bip_explain.proofs.WantedLemmas.{grant_taken, no_line}
use Rattle.bip_explain.proofs.traces.find_form.Goals as goal

pub returns-in-Some-find_word-clause-some : goal.returns-in-Some-find_word-clause-some
returns-in-Some-find_word-clause-some c = λ model.
    let reason = c.in-Some-find_word.reason in
    let form : IsFormReason Own Grant [] c.args.line.now reason =
    rw c.of.ensures.line at (c.in-Some-find_word.ensures.some []
    (rw (c.of.ensures.line, c.of.ensures.rest) refl)) in
    (inr (form, no_line IsGrantWords Own Grant [] grant_taken c.args.line.now reason form), refl)

pub returns-in-None-clause-none : goal.returns-in-None-clause-none
returns-in-None-clause-none c = λ model.
    let takes : takes_all Own Grant (words c.args.line.now) ≡ true =
    rw c.of.ensures.rest at c.in-None.ensures.none in
    where_none c.find_want.result (no_syntax model c.args.line.now _ _ c.in-Some.ensures.words
    takes) c.find_want.ensures.none
