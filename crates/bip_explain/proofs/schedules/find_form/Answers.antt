use Rattle.std.proofs.Common.{◌∷◌, [], inr, refl, sym, ◌∙◌}
use Rattle.bip_explain.proofs.FormLemmas.{words_from_said}
use Rattle.bip_explain.proofs.schedules.find_form.Goals as goal

pub returns-in_ok-find_word-in-Some-behind_verb-clause-some : goal.returns-in_ok-find_word-in-Some-behind_verb-clause-some
returns-in_ok-find_word-in-Some-behind_verb-clause-some c = λ plan.
    let verb = c.in-Some.first.word.now in (
      inr (
        verb,
        c.in-Some-behind_verb.start,
        sym c.behind_verb.ensures ∙ c.in-Some-behind_verb.is,
        rw c.in-Some.ensures.line at (c.in_ok-find_word-in-Some-behind_verb.ensures.some (verb ∷ [])
            (rw c.in-Some.ensures.line (words_from_said c.args.line.now verb _
            c.in-Some.ensures.words))),
      ),
      refl,
    )
