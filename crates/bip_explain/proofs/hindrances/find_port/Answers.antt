use Rattle.std.proofs.Common.{List, drop, suc, sym, take}
use Rattle.bip_model.specs.Parts.{Participant}
use Rattle.bip_model.proofs.ListLemmas.{parted}
use Rattle.bip_explain.proofs.hindrances.find_port.Goals as goal

pub returns-in-Some-clause-some : goal.returns-in-Some-clause-some
returns-in-Some-clause-some c =
    let qs : List Participant = c.args.participants.now in
    let i = c.loop-comp.comp-index in
    let d : Participant = (record { 0 = 0 }, record { 0 = 0 }) in (
      record {
        front = take i qs;
        behind = drop (suc i) qs;
        split = sym (parted qs i d c.loop-comp-test.true);
        before = c.loop-comp.invariant;
        here = c.in-Some.ensures.some.0;
      },
      c.in-Some.ensures.some.1,
    )
