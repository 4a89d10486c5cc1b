use Rattle.std.proofs.Common.{arith, ap, length, take, []}
use Rattle.std.proofs.lemmas.List.{length-take-le}
use Rattle.bip_model.specs.States.{state_of}
use Rattle.bip_explain.proofs.PartyLemmas.{few_off}
use Rattle.bip_explain.proofs.parties.off_among.Goals as goal

pub push-requires : goal.push-requires
push-requires c =
    let qs = c.args.participants.now in
    let i = c.loop-comp.comp-index in
    let few = few_off c.args.model.now (state_of c.args.state.now) [] (take i qs) in
    let short = length-take-le i qs (omega arith) in
    (omega arith, omega (arith, few, short, ap length c.loop-comp.invariant, c.requires.few))
