use Rattle.std.proofs.Common.{◌+◌, add-one, sym, ◌∙◌, refl, inl, inr}
use Rattle.std.proofs.lemmas.List.{take_rest}
use Rattle.std.proofs.lemmas.List.Quantifiers.{position-Some}
use Rattle.bip_model.specs.Texts.{IsLineAndRest, is_line_feed}
use Rattle.bip_model.proofs.TextLemmas.{line_parts, lines_at, lines_whole, position_none}
use Rattle.bip_model.proofs.texts.split_line.Goals as goal

pub returns-in-None-clause-lines : goal.returns-in-None-clause-lines
returns-in-None-clause-lines c = lines_whole c.args.text.now c.requires
    (position_none is_line_feed c.args.text.now (sym c.line_end.ensures ∙ c.in-None.is))

pub returns-in-Some-clause-lines : goal.returns-in-Some-clause-lines
returns-in-Some-clause-lines c =
    let at = position-Some is_line_feed c.args.text.now c.in-Some.end 0
    (sym c.line_end.ensures ∙ c.in-Some.is) in
    rw (take_rest c.args.text.now (c.in-Some.end + 1), add-one c.in-Some.end)
    (lines_at c.args.text.now c.in-Some.end at.0 at.1 at.2)

pub returns-in-None-clause-whole : goal.returns-in-None-clause-whole
unfolding IsLineAndRest
returns-in-None-clause-whole c = inr (refl, refl)

pub returns-in-Some-clause-whole : goal.returns-in-Some-clause-whole
unfolding IsLineAndRest
returns-in-Some-clause-whole c =
    let at = position-Some is_line_feed c.args.text.now c.in-Some.end 0
    (sym c.line_end.ensures ∙ c.in-Some.is) in
    rw (take_rest c.args.text.now (c.in-Some.end + 1), add-one c.in-Some.end)
    (inl (line_parts c.args.text.now c.in-Some.end at.0 at.1))
