use Rattle.bip_model.specs.States.{state_of}
use Rattle.bip_explain.proofs.HindranceLemmas.{led_by}
use Rattle.bip_explain.proofs.hindrances.go_on.Goals as goal

pub returns-in-Some-clause-led : goal.returns-in-Some-clause-led
returns-in-Some-clause-led c = λ o says.
    led_by c.args.model.now (state_of c.args.state.now)
    (state_of c.fire-fired.new.state) c.in-Some.inter c.args.line.now c.fire-fired.result
    c.fire-fired.ensures.fired c.fire-fired.ensures.refused c.in-Some.ensures.named
    c.in-Some.ensures.silent o says
