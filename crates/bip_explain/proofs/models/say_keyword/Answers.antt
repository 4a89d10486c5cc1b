use Rattle.std.proofs.Common.{ap, ◌++◌, ◌∙◌, List, ℕ}
use Rattle.bip_explain.specs.Explanations.{placed_parts, with_parts}
use Rattle.bip_explain.specs.Hints.{first_hint}
use Rattle.bip_explain.specs.Marks.{text_parts}
use Rattle.bip_explain.specs.Models.{standing_parts}
use Rattle.bip_explain.proofs.SayLemmas.{then_said}
use Rattle.bip_explain.proofs.models.say_keyword.Goals as goal

pub returns : goal.returns
returns c =
    let first = c.args.first in
    let standing = standing_parts c.args.standing in
    then_said (placed_parts first ++ standing)
    (text_parts (first_hint first.word.now)) c.args.explanation.now
    c.say_standing.new.explanation c.say.new.explanation
    (then_said (placed_parts first) standing c.args.explanation.now c.say_placed.new.self
    c.say_standing.new.explanation c.say_placed.ensures c.say_standing.ensures)
    (c.say.ensures ∙ ap (λ (parts : List (List ℕ)). with_parts parts c.say_standing.new.explanation)
    c.hint_of_first.ensures)
