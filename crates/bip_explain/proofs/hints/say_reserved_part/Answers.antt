use Rattle.std.proofs.Common.{ap, ◌∙◌}
use Rattle.std.specs.Prelude.{codes}
use Rattle.bip_explain.specs.Explanations.{Telling, marked, with_part}
use Rattle.bip_explain.proofs.hints.say_reserved_part.Goals as goal

pub returns : goal.returns
returns c =
    c.say-2.ensures
    ∙ ap (λ (e : Telling). with_part (codes " is a word of the language, and no name") e)
    (c.say_word.ensures ∙ ap (λ (e : Telling). with_part (marked c.args.part.now) e)
    c.say.ensures)
