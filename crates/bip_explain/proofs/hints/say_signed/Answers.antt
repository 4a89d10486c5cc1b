use Rattle.std.proofs.Common.{ap, ◌∙◌}
use Rattle.std.specs.Prelude.{codes}
use Rattle.bip_explain.specs.Explanations.{Telling, marked, with_part}
use Rattle.bip_explain.proofs.hints.say_signed.Goals as goal

pub returns : goal.returns
returns c =
    let last = codes ", modulo 4294967296, and behind a sign the other one stands for both" in
    c.say-2.ensures
    ∙ ap (λ (e : Telling). with_part last e)
    (c.say_word.ensures ∙ ap (λ (e : Telling). with_part (marked c.args.term.now) e)
    c.say.ensures)
