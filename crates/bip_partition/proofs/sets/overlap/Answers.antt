use Rattle.std.proofs.Common.{bit_and, inl, inr, refl, arith}
use Rattle.std.proofs.lemmas.Bool.Decides.{eqb_tells}
use Rattle.bip_partition.proofs.SetLemmas.{share, shared_some}
use Rattle.bip_partition.proofs.sets.overlap.Goals as goal

pub returns : goal.returns
returns c = elim (eqb_tells (bit_and c.args.set c.args.other) 0) [
  | inl none ↦ rw none.0 (
    (λ some. absurd (cc)),
    (λ at. absurd (omega (arith, none.1, shared_some c.args.set c.args.other at))),
  )
  | inr some ↦ rw some.0 (
    (λ _. share c.args.set c.args.other c.ranges.set.fits
        (omega (arith, some.1))),
    (λ _. refl),
  )
]
