use Rattle.std.proofs.Common.{length, refl, rules}
use Rattle.bip_walk.proofs.TallyLemmas.{tally_of_one, within_one}
use Rattle.bip_walk.proofs.tallies.Tally.of.Goals as goal

pub invariant_of-result : goal.invariant_of-result
invariant_of-result c =
    let n = length c.args.model.now.interactions in
    record {
      grants = search rules;
      counts = rw c.counts_of.ensures (within_one n c.args.grants.now c.requires);
      stuck = search rules;
    }

pub returns : goal.returns
returns c =
    tally_of_one (length c.args.model.now.interactions) _ _ refl (search rules) c.counts_of.ensures c.from.ensures
    c.then_some.ensures
