use Rattle.std.proofs.Common.{ap, ◌∷◌, ◌∙◌}
use Rattle.std.specs.Prelude.{codes}
use Rattle.bip_model.specs.States.{state_of}
use Rattle.bip_model.specs.Steps.{participants_of}
use Rattle.bip_explain.specs.Explanations.{Telling, with_parts}
use Rattle.bip_explain.specs.Hindrances.{failed_parts, places_parts}
use Rattle.bip_explain.proofs.SayLemmas.{then_said}
use Rattle.bip_explain.proofs.hindrances.say_guard.Goals as goal

pub returns : goal.returns
returns c =
    let m = c.args.model.now in
    let failed = failed_parts c.args.failed in
    then_said (codes "each port is offered, and the guard doesn't hold" ∷ failed)
    (places_parts m (state_of c.args.state.now) (codes "; ") (participants_of m c.args.inter.0))
    c.args.explanation.now c.say-2.new.explanation c.say_places.new.explanation
    (c.say-2.ensures ∙ ap (λ (e : Telling). with_parts failed e) c.say.ensures)
    (rw c.participants_of.ensures at c.say_places.ensures)
