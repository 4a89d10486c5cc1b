use Rattle.std.proofs.Common.{ap, ◌∷◌, ◌∙◌}
use Rattle.std.specs.Prelude.{codes}
use Rattle.std.specs.List.{slice_get}
use Rattle.bip_explain.specs.Explanations.{Telling, with_parts}
use Rattle.bip_explain.specs.Hindrances.{failed_parts, port_parts}
use Rattle.bip_explain.proofs.SayLemmas.{then_said}
use Rattle.bip_explain.proofs.hindrances.say_guarded.Goals as goal

pub returns : goal.returns
returns c =
    let port = port_parts (slice_get c.args.model.now.components c.args.comp.0) c.args.port.0 in
    let failed = failed_parts c.args.failed in
    then_said (codes ", where the guard of its transition by " ∷ port)
    (codes " doesn't hold" ∷ failed) c.args.explanation.now c.say_port.new.explanation
    c.say-3.new.explanation
    (c.say_port.ensures ∙ ap (λ (e : Telling). with_parts port e) c.say.ensures)
    (c.say-3.ensures ∙ ap (λ (e : Telling). with_parts failed e) c.say-2.ensures)
