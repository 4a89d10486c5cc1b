use Rattle.std.proofs.Common.{arith, get_or, refl}
use Rattle.std.proofs.lemmas.Option.{slice_get-get_or}
use Rattle.bip_core.proofs.accepting.has_reasons.Goals as goal

pub returns : goal.returns
returns c =
    let reasons = c.args.reasons.now in (
      λ test. λ k d within. c.loop-place.invariant k (get_or reasons k
          d) (omega (arith, within, c.len-place-end.ensures.count, c.loop-place-test.false))
          (slice_get-get_or reasons k d within),
      λ all. refl,
    )
