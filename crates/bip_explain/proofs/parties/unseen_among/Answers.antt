use Rattle.std.proofs.Common.{arith, ap, length, take}
use Rattle.std.proofs.lemmas.List.{length-take-le}
use Rattle.bip_model.specs.Parts.{Participant}
use Rattle.std.proofs.Common.{List}
use Rattle.bip_explain.proofs.PartyLemmas.{few_unseen}
use Rattle.bip_explain.proofs.parties.unseen_among.Goals as goal

pub push-requires : goal.push-requires
push-requires c =
    let qs : List Participant = c.args.participants.now in
    let i = c.loop-comp.comp-index in
    let few = few_unseen c.args.wants.now (take i qs) in
    let short = length-take-le i qs (omega arith) in
    (omega arith, omega (arith, few, short, ap length c.loop-comp.invariant, c.requires))
