use Rattle.std.proofs.Common.{ℕ, List, ◌∷◌, ap, sym, ◌∙◌, subst, IfSome}
use Rattle.bip_model.specs.Texts.{line_at}
use Rattle.bip_explain.specs.Placed.{said_words}
use Rattle.bip_explain.specs.Twice.{AreUnsaid, IsTwiceReason, say_same}
use Rattle.bip_explain.proofs.FormLemmas.{if_none, words_from_said}
use Rattle.bip_explain.proofs.twice.find_twice.Goals as goal

pub find_repeated-requires : goal.find_repeated-requires
find_repeated-requires c =
    let line = c.line_at-line.result.now in
    let keyword = c.in-Some.keyword.word.now in
    let same = c.next.ensures.steps.0 ∙ c.in-Some.ensures.line in (
      keyword,
      c.in-Some-next.named.word.now,
      rw same (words_from_said line keyword _
          c.in-Some.ensures.words ∙ ap (λ (ws : List (List ℕ)). keyword ∷ ws)
          c.in-Some-next.ensures.steps.1.0),
    )

pub returns-clause-is : goal.returns-clause-is
returns-clause-is c =
    subst (λ (l : List ℕ). IfSome c.find_repeated.result
    (IsTwiceReason c.args.text.now c.args.number l))
    (c.next.ensures.steps.0 ∙ c.in-Some.ensures.line ∙ c.line_at-line.ensures)
    (c.find_repeated.ensures.is c.args.text.now c.args.number)

pub returns-in-Some-line_of_name-clause-is : goal.returns-in-Some-line_of_name-clause-is
returns-in-Some-line_of_name-clause-is c =
    let line = line_at c.args.text.now c.args.number in
    let named = c.in-Some-next.named in
    let steps = c.in-Some-next.ensures.steps in
    let same = c.in-Some.ensures.line ∙ c.line_at-line.ensures in
    let found = c.in-Some-line_of_name.ensures.some in
    let words = rw c.line_at-line.ensures at c.in-Some.ensures.words in (
      rw same at steps.1.1,
      found.0,
      (
        c.in-Some.keyword.word.now,
        _,
        words ∙ ap (λ (ws : List (List ℕ)). c.in-Some.keyword.word.now ∷ ws) steps.1.0,
        found.1,
      ),
    )

pub returns-clause-none : goal.returns-clause-none
returns-clause-none c =
    let text = c.args.text.now in
    let number = c.args.number in
    let keyword = c.in-Some.keyword.word.now in
    let words = rw c.line_at-line.ensures at c.in-Some.ensures.words in
    let whole = words ∙ ap (λ (ws : List (List ℕ)). keyword ∷ ws)
    c.in-Some-next.ensures.steps.1.0 in
    let found = rw c.line_at-line.ensures at c.in_default-find_said.ensures.none in
    if_none c.find_repeated.result (subst (λ (ws : List (List ℕ)). AreUnsaid text number ws)
    (sym whole) (
      λ n h. ap (λ (ws : List (List ℕ)). say_same ws
          (said_words (line_at text n))) (sym whole)
          ∙ found n h,
      c.in_default-line_of_name.ensures.none,
    ))
