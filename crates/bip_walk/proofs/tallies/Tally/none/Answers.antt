use Rattle.std.proofs.Common.{arith, length, refl}
use Rattle.bip_walk.proofs.TallyLemmas.{counts_of_none, within_none}
use Rattle.bip_walk.proofs.tallies.Tally.none.Goals as goal

pub invariant_of-result : goal.invariant_of-result
invariant_of-result c =
    let n = length c.args.model.now.interactions in
    record {
      grants = omega arith;
      counts = rw (c.counts_of.ensures, counts_of_none n) (within_none n);
      stuck = omega arith;
    }

pub returns : goal.returns
returns c =
    let n = length c.args.model.now.interactions in
    rw (c.counts_of.ensures, counts_of_none n) refl
