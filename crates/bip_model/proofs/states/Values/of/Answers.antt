use Rattle.std.proofs.Common.{◌≡◌, rules, arith}
use Rattle.bip_model.proofs.SequenceLemmas.{IsPadded-copied}
use Rattle.bip_model.proofs.states.Values.of.Goals as goal

pub invariant_of-result : goal.invariant_of-result
invariant_of-result c =
    let is : c.copy_from_slice.new.self ≡ c.args.list.now = search rules in
    rw is (IsPadded-copied 8 c.args.list.now (omega arith))
