use Rattle.std.proofs.Common.{◌++◌, take, take-append-drop, append_assoc, add-zero, sym, ap, ◌∙◌, ℕ}
use Rattle.std.proofs.Common.{List}
use Rattle.std.proofs.lemmas.Bool.{not-true}
use Rattle.std.proofs.lemmas.List.{get_or-drop, take_rest}
use Rattle.std.proofs.lemmas.List.Quantifiers.{position-Some}
use Rattle.bip_model.specs.Texts.{IsWordAndRest, words}
use Rattle.bip_model.proofs.TextLemmas.{blanks_before, is_inked, words_behind, words_none}
use Rattle.bip_model.proofs.TextLemmas.{position_none}
use Rattle.bip_model.proofs.texts.split_word.Goals as goal

pub returns-in_err-start-clause-none : goal.returns-in_err-start-clause-none
returns-in_err-start-clause-none c =
    rw c.from_residual.ensures (words_none c.args.line.now
    (position_none is_inked c.args.line.now (sym c.word_start.ensures ∙ c.in_err-start.was)))

pub split_first_word-requires-clause-begins : goal.split_first_word-requires-clause-begins
split_first_word-requires-clause-begins c =
    let at = position-Some is_inked c.args.line.now c.in_ok-start.start 0
    (sym c.word_start.ensures ∙ c.in_ok-start.was) in
    rw (take_rest c.args.line.now c.in_ok-start.start)
    (rw (get_or-drop c.in_ok-start.start c.args.line.now 0 0, add-zero c.in_ok-start.start)
    (not-true _ at.1))

pub returns-clause-word : goal.returns-clause-word
returns-clause-word c =
    let at = position-Some is_inked c.args.line.now c.in_ok-start.start 0
    (sym c.word_start.ensures ∙ c.in_ok-start.was) in
    words_behind c.args.line.now c.in_ok-start.start at.0 at.2
    ∙ (ap words (sym (take_rest c.args.line.now c.in_ok-start.start))
    ∙ c.split_first_word.ensures.word)

pub returns-clause-whole : goal.returns-clause-whole
unfolding IsWordAndRest
returns-clause-whole c =
    let line : List ℕ = c.args.line.now in
    let front : List ℕ = take c.in_ok-start.start line in
    let at = position-Some is_inked line c.in_ok-start.start 0
    (sym c.word_start.ensures ∙ c.in_ok-start.was) in
    let rest = sym (take_rest line c.in_ok-start.start) ∙ c.split_first_word.ensures.whole in
    let whole = sym (take-append-drop c.in_ok-start.start line)
    ∙ (ap (λ (ys : List ℕ). front ++ ys) rest
    ∙ sym (append_assoc front c.split_first_word.result.0.now
    c.split_first_word.result.1.now)) in (
      front,
      blanks_before line c.in_ok-start.start at.0 at.2,
      whole,
      c.split_first_word.ensures.parted,
    )
