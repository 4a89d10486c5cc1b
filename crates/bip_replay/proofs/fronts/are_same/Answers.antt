use Rattle.std.proofs.Common.{◌≡◌, ◌-◌, arith, drop, length, rules, take}
use Rattle.bip_replay.proofs.FrontLemmas.{same_lanes}
use Rattle.bip_replay.proofs.fronts.are_same.Goals as goal

pub returns : goal.returns
returns c = λ test.
    let first : take 8 c.args.one.now ≡ take 8 c.args.other.now = search rules in
    let last : drop (length c.args.one.now - 8) c.args.one.now
    ≡ drop (length c.args.other.now - 8) c.args.other.now = search rules in
    same_lanes c.args.one.now c.args.other.now c.requires (omega arith) (omega arith) first last
