use Rattle.std.proofs.Common.{◌≡◌, ◌<◌, arith, refl}
use Rattle.std.specs.Int.{bit_at}
use Rattle.std.proofs.lemmas.Nat.Bits.{bit_at-trailing_zeros}
use mir.Syntax.{w128}
use Rattle.bip_model.proofs.sets.lowest_inter.Goals as goal

pub returns : goal.returns
returns c =
    let some : 0 < c.args.set = omega (arith, c.if-set-eq0.false) in
    let at = bit_at-trailing_zeros w128 c.args.set some c.ranges.set.fits in
    record {
      some = record {
        here = rw at.1 refl;
        lower = λ k less is.
            let off : bit_at c.args.set k ≡ 0 = at.2 k less in
            let no = rw off at is in
            absurd (cc);
      };
      within = at.0;
      none = tt;
    }
