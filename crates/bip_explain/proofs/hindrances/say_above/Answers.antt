use Rattle.std.proofs.Common.{ap, ◌∷◌, ◌∙◌}
use Rattle.std.specs.Prelude.{codes}
use Rattle.bip_model.specs.States.{state_of}
use Rattle.bip_model.specs.Steps.{participants_of}
use Rattle.bip_explain.specs.Explanations.{Telling, with_parts}
use Rattle.bip_explain.specs.Grants.{name_parts}
use Rattle.bip_explain.specs.Hindrances.{places_parts}
use Rattle.bip_explain.proofs.SayLemmas.{then_said}
use Rattle.bip_explain.proofs.hindrances.say_above.Goals as goal

pub returns : goal.returns
returns c =
    let m = c.args.model.now in
    let places = places_parts m (state_of c.args.state.now) (codes ": ")
    (participants_of m c.args.above.0) in
    then_said (name_parts m.interaction_names c.args.above.0)
    (codes " stands above it, and is enabled" ∷ places) c.args.explanation.now
    c.say_name.new.explanation c.say_places.new.explanation
    (rw c.interaction_names.ensures.names at c.say_name.ensures)
    (rw c.participants_of.ensures at c.say_places.ensures
    ∙ ap (λ (e : Telling). with_parts places e) c.say.ensures)
