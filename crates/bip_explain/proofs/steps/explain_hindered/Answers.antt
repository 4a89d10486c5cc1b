use Rattle.std.proofs.Common.{None, Some}
use Rattle.bip_explain.specs.Hindrances.{IsHindered, MayKeepStep, hindered_parts}
use Rattle.bip_explain.proofs.SayLemmas.{tells}
use Rattle.bip_explain.proofs.steps.explain_hindered.Goals as goal

pub returns-in-Ok-Some : goal.returns-in-Ok-Some
returns-in-Ok-Some c = λ base.
    let m = c.args.model.now in
    let t = c.in-Ok-Some in
    tells (MayKeepStep m base c.args.text.now c.args.number c.args.fault.now)
    (IsHindered m base c.args.text.now c.args.number c.args.fault.now)
    (hindered_parts m) c.args.explanation.now c.say.new.explanation
    (Some t.hindered) c.requires.open
    ((rw t.field-0-is at t.ensures.some) base) c.say.ensures

pub returns-in-Err : goal.returns-in-Err
returns-in-Err c = λ base.
    let m = c.args.model.now in
    tells (MayKeepStep m base c.args.text.now c.args.number c.args.fault.now)
    (IsHindered m base c.args.text.now c.args.number c.args.fault.now)
    (hindered_parts m) c.args.explanation.now c.say-in-Err.new.self None c.requires.open tt
    c.say-in-Err.ensures
