use Rattle.std.proofs.Common.{ap, ◌∷◌, ◌++◌, ◌∙◌}
use Rattle.std.specs.Prelude.{codes, List, ℕ}
use Rattle.bip_explain.specs.Explanations.{Telling, column_parts, placed_parts, with_parts}
use Rattle.bip_explain.specs.Forms.{wanted_parts}
use Rattle.bip_explain.specs.Hints.{hint_for}
use Rattle.bip_explain.proofs.SayLemmas.{then_said}
use Rattle.bip_explain.proofs.forms.FormReason.say.Goals as goal

pub returns-in-Byte : goal.returns-in-Byte
returns-in-Byte c = rw c.in-Byte.is (cc)

pub returns-in-Word : goal.returns-in-Word
returns-in-Word c =
    let w = c.in-Word in
    let wanted = wanted_parts w.spelling w.expected in
    rw w.is
    (then_said (placed_parts w.placed ++ codes " stands where " ∷ wanted)
    (hint_for w.spelling w.expected w.placed.word.now) c.args.explanation.now
    c.say_wanted.new.explanation c.say-in-Word-2.new.explanation
    (then_said (placed_parts w.placed) (codes " stands where " ∷ wanted) c.args.explanation.now
    c.say_placed.new.self c.say_wanted.new.explanation c.say_placed.ensures
    (c.say_wanted.ensures ∙ ap (λ (e : Telling). with_parts wanted e) c.say-in-Word.ensures))
    (c.say-in-Word-2.ensures ∙ ap (λ (parts : List (List ℕ)). with_parts parts
    c.say_wanted.new.explanation) c.hint_of.ensures))

pub returns-in-End : goal.returns-in-End
returns-in-End c =
    let w = c.in-End in
    let wanted = wanted_parts w.spelling w.expected in
    rw w.is
    (then_said (column_parts w.column) (codes "the line ends where " ∷ wanted)
    c.args.explanation.now c.say_column-in-End.new.self c.say_wanted-in-End.new.explanation
    c.say_column-in-End.ensures
    (c.say_wanted-in-End.ensures ∙ ap (λ (e : Telling). with_parts wanted e) c.say-in-End.ensures))
