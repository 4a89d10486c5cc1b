use Rattle.std.proofs.Common.{◌≡◌, arith, length, subst, sym}
use Rattle.bip_model.specs.Reasons.{IsReasons, whys_in}
use Rattle.bip_model.proofs.ReasonLemmas.{all_kept}
use Rattle.bip_model.proofs.reasons.Reasons.of.Goals as goal

pub invariant_of-result : goal.invariant_of-result
invariant_of-result c =
    let list = c.args.list.now in
    let are : IsReasons list = c.are_reasons.ensures.0 c.if-not-are_reasons.false in
    let all : whys_in (length list) c.loop-place.kept ≡ list =
    all_kept list c.loop-place.kept c.loop-place.place c.loop-place-test.false
    c.loop-place.auto.place-end are.nameable c.loop-place.invariant.1 in
    (omega (arith, are.few, c.loop-place.invariant.0), subst IsReasons (sym all) are)

pub returns-clause-reasons : goal.returns-clause-reasons
returns-clause-reasons c =
    let list = c.args.list.now in
    let are : IsReasons list = c.are_reasons.ensures.0 c.if-not-are_reasons.false in
    all_kept list c.loop-place.kept c.loop-place.place c.loop-place-test.false
    c.loop-place.auto.place-end are.nameable c.loop-place.invariant.1
