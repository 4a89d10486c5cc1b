use Rattle.std.proofs.Common.{sym, ◌∙◌, inr, add-zero}
use Rattle.std.proofs.lemmas.List.{get_or-drop, take_rest}
use Rattle.std.proofs.lemmas.List.Quantifiers.{position-Some}
use Rattle.bip_model.specs.Texts.{is_blank}
use Rattle.bip_model.proofs.TextLemmas.{words_at, words_whole, position_none}
use Rattle.bip_model.proofs.texts.split_first_word.Goals as goal

pub returns-in-None-clause-word : goal.returns-in-None-clause-word
returns-in-None-clause-word c = words_whole c.args.line.now c.requires.longer
    (position_none is_blank c.args.line.now (sym c.word_end.ensures ∙ c.in-None.is))

pub returns-in-Some-clause-word : goal.returns-in-Some-clause-word
returns-in-Some-clause-word c =
    let at = position-Some is_blank c.args.line.now c.in-Some.end 0
    (sym c.word_end.ensures ∙ c.in-Some.is) in
    rw (take_rest c.args.line.now c.in-Some.end)
    (words_at c.args.line.now c.in-Some.end c.requires.begins at.0 at.1 at.2)

pub returns-in-Some-clause-parted : goal.returns-in-Some-clause-parted
returns-in-Some-clause-parted c =
    let at = position-Some is_blank c.args.line.now c.in-Some.end 0
    (sym c.word_end.ensures ∙ c.in-Some.is) in
    rw (take_rest c.args.line.now c.in-Some.end)
    (inr (rw (get_or-drop c.in-Some.end c.args.line.now 0 0, add-zero c.in-Some.end) at.1))
