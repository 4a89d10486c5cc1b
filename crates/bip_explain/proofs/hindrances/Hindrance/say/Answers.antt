use Rattle.bip_model.specs.States.{state_of}
use Rattle.bip_explain.specs.Hindrances.{place_parts, unoffered_parts}
use Rattle.bip_explain.proofs.SayLemmas.{then_said}
use Rattle.bip_explain.proofs.hindrances.Hindrance.say.Goals as goal

pub returns-in-Port : goal.returns-in-Port
returns-in-Port c =
    let m = c.args.model.now in
    let p = c.in-Port in
    rw p.is (then_said (place_parts m (state_of c.args.state.now) p.comp.0)
    (unoffered_parts m p.comp.0 p.port.0 p.why) c.args.explanation.now
    c.say_place.new.explanation c.say.new.explanation c.say_place.ensures c.say.ensures)
