use Rattle.std.proofs.Common.{◌+◌, ◌-◌, ◌/◌, ◌<◌, ℕ, arith, length}
use Rattle.bip_forks.proofs.SideLemmas.{higher_onward, lower_before}
use Rattle.bip_forks.proofs.sides.first_from.Goals as goal

pub loop-low-preserved-then-shared-middle : goal.loop-low-preserved-then-shared-middle
loop-low-preserved-then-shared-middle c =
    let low = c.loop-low.low in
    let high = c.loop-low.high in
    let middle : ℕ = low + (high - low) / 2 in
    let inside : middle < high = omega (arith, c.loop-low-test.true) in
    let within : middle < length c.args.shared.now =
    omega (arith, inside, c.loop-low.invariant.within) in
    record {
      order = omega (arith, inside);
      within = c.loop-low.invariant.within;
      before = lower_before c.requires.0 c.args.shared.now middle c.args.from
          c.index-shared-middle.result c.requires.1 within c.if-shared-middle.true;
      onward = c.loop-low.invariant.onward;
    }

pub loop-low-preserved : goal.loop-low-preserved
loop-low-preserved c =
    let low = c.loop-low.low in
    let high = c.loop-low.high in
    let middle : ℕ = low + (high - low) / 2 in
    let inside : middle < high = omega (arith, c.loop-low-test.true) in
    let within : middle < length c.args.shared.now =
    omega (arith, inside, c.loop-low.invariant.within) in
    record {
      order = omega arith;
      within = omega (arith, within);
      before = c.loop-low.invariant.before;
      onward = higher_onward c.requires.0 c.args.shared.now middle c.args.from
          c.index-shared-middle.result c.requires.1 within c.if-shared-middle.false;
    }
