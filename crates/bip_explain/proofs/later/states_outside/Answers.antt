use Rattle.std.proofs.Common.{◌∷◌, [], refl, sym, ◌∙◌}
use Rattle.std.proofs.lemmas.Bool.{false≢true}
use Rattle.bip_model.specs.Texts.{words}
use Rattle.bip_explain.specs.Forms.{IsFormReason}
use Rattle.bip_explain.specs.Keywords.{IsModelLine, spelling_behind}
use Rattle.bip_explain.specs.Later.{StateOutside}
use Rattle.bip_explain.specs.declared.scopes.Standing.TheVariants.{Outside}
use Rattle.bip_explain.proofs.FormLemmas.{words_from_said}
use Rattle.bip_explain.proofs.LaterLemmas.{states_none}
use Rattle.bip_explain.proofs.TakenLineLemmas.{stated_at}
use Rattle.bip_explain.proofs.WantedLemmas.{line_taken, no_line}
use Rattle.bip_explain.proofs.later.states_outside.Goals as goal

pub returns-in-None-find_word : goal.returns-in-None-find_word
returns-in-None-find_word c =
    let keyword = c.in-Some.keyword.word.now in
    let start = c.in-Some-behind_outside.start in
    let begins = sym c.behind_outside.ensures ∙ c.in-Some-behind_outside.is in
    let takes = rw c.spelling_behind.ensures at c.in-None-find_word.ensures.none in
    (λ _. rw c.in-Some.ensures.words (stated_at Outside keyword _ start begins takes), λ _. refl)

pub returns-in-Some-find_word : goal.returns-in-Some-find_word
returns-in-Some-find_word c =
    let line = c.args.line.now in
    let keyword = c.in-Some.keyword.word.now in
    let start = c.in-Some-behind_outside.start in
    let found = c.in-Some-find_word in
    let begins = sym c.behind_outside.ensures ∙ c.in-Some-behind_outside.is in
    let first = words_from_said line keyword _ c.in-Some.ensures.words in
    let form : IsFormReason (spelling_behind keyword) start (keyword ∷ []) line found._misplaced
    = rw (c.spelling_behind.ensures, c.in-Some.ensures.line) at
    (found.ensures.some (keyword ∷ []) (rw c.in-Some.ensures.line first)) in (
      λ wrong. absurd (false≢true wrong),
      λ states.
          let stated : StateOutside (keyword ∷ words c.in-Some.rest.rest.now)
          = rw c.in-Some.ensures.words at states in
          let spelling = spelling_behind keyword in
          absurd (states_none line found._misplaced spelling start (keyword ∷ []) form
          (no_line IsModelLine spelling start (keyword ∷ [])
          (λ ws s. line_taken keyword ws start s Outside begins) line found._misplaced form)
          (rw first stated.0)),
    )
