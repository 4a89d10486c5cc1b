use Rattle.std.proofs.Common.{◌≡◌, rules, arith}
use Rattle.bip_model.proofs.SequenceLemmas.{IsPadded-copied, take-copied}
use Rattle.bip_model.proofs.naming.Name.of.Goals as goal

pub invariant_of-result : goal.invariant_of-result
invariant_of-result c =
    let is : c.copy_from_slice.new.self ≡ c.args.text.now = search rules in
    rw is (IsPadded-copied 32 c.args.text.now (omega arith), rw take-copied (search rules))
