use Rattle.std.proofs.Common.{◌∷◌, [], inr, sym, ◌∙◌}
use Rattle.bip_explain.specs.Forms.{IsFormReason}
use Rattle.bip_explain.specs.Keywords.{IsModelLine, IsStatedAt, spelling_behind}
use Rattle.bip_model.specs.Texts.{line_at}
use Rattle.bip_explain.specs.Placed.{said_words}
use Rattle.bip_explain.proofs.FormLemmas.{if_none, plain_from_said, words_from_said}
use Rattle.bip_explain.proofs.TakenLineLemmas.{can_stand, stated_at}
use Rattle.bip_explain.proofs.WantedLemmas.{line_taken, no_line}
use Rattle.bip_explain.proofs.models.find_form.Goals as goal

pub returns-in_ok-find_word-in-Some-behind_keyword-clause-is : goal.returns-in_ok-find_word-in-Some-behind_keyword-clause-is
returns-in_ok-find_word-in-Some-behind_keyword-clause-is c = λ why.
    let line = line_at c.args.text.now c.args.number in
    let keyword = c.in-Some.first.word.now in
    let start = c.in-Some-behind_keyword.start in
    let found = c.in_ok-find_word-in-Some-behind_keyword in
    let begins = sym c.behind_keyword.ensures ∙ c.in-Some-behind_keyword.is in
    let form : IsFormReason (spelling_behind keyword) start (keyword ∷ []) line found.field-0
    = rw (c.spelling_behind-spelling.ensures, c.in-Some.ensures.line, c.line_at-line.ensures) at
    (found.ensures.some (keyword ∷ []) (rw c.in-Some.ensures.line
    (words_from_said c.line_at-line.result.now keyword _ c.in-Some.ensures.words))) in
    inr (
      c.standing_at-standing.result,
      c.standing_at-standing.ensures,
      record {
        keyword = keyword;
        start = start;
        begins = begins;
        form = form;
        no_line = no_line IsModelLine (spelling_behind keyword) start (keyword ∷ [])
            (λ ws states. line_taken keyword ws start states c.standing_at-standing.result begins)
            line found.field-0 form;
        wanted = can_stand c.standing_at-standing.result keyword line start found.field-0 begins
            form;
      },
    )

pub returns-in_err-find_word-in-Some-behind_keyword-clause-none : goal.returns-in_err-find_word-in-Some-behind_keyword-clause-none
returns-in_err-find_word-in-Some-behind_keyword-clause-none c =
    let line = c.line_at-line.result.now in
    let keyword = c.in-Some.first.word.now in
    let standing = c.standing_at-standing.result in
    let begins = sym c.behind_keyword.ensures ∙ c.in-Some-behind_keyword.is in
    let takes = rw c.spelling_behind-spelling.ensures at
    c.in_err-find_word-in-Some-behind_keyword.ensures.none in
    let taken : IsStatedAt standing (said_words line) =
    rw c.in-Some.ensures.words (stated_at standing keyword _ c.in-Some-behind_keyword.start
    begins takes) in
    if_none c.from_residual-in_err-find_word-in-Some-behind_keyword.result
    (rw (← c.line_at-line.ensures) (
      plain_from_said line keyword _ c.in-Some.ensures.words,
      (standing, c.standing_at-standing.ensures, taken),
    ))

pub returns-in-None-clause-is : goal.returns-in-None-clause-is
returns-in-None-clause-is c = λ why. (
  rw c.line_at-line.ensures at c.in-Some.ensures.first,
  c.standing_at-standing.ensures,
  sym c.behind_keyword.ensures ∙ c.in-None.is,
)
