use Rattle.std.proofs.Common.{◌≡◌, ◌∙◌, List, ap, arith, get_or, subst, sym}
use Rattle.std.proofs.lemmas.Bool.{false≢true}
use Rattle.std.proofs.lemmas.List.{get_or_default, length-set}
use Rattle.bip_model.specs.Priorities.{IsListAbove}
use Rattle.bip_model.specs.Reasons.{IsReasons}
use Rattle.bip_model.specs.declared.numbering.InterId.{InterId}
use Rattle.bip_model.specs.declared.reasons.Why.{Why}
use Rattle.bip_model.proofs.PartyLemmas.{above_declared}
use Rattle.bip_partition.specs.Plans.{Planned}
use Rattle.bip_observe.specs.Offers.{observed}
use Rattle.bip_observe.specs.Verdicts.{AreReasonsBy}
use Rattle.bip_observe.proofs.ReasonLemmas.{few_above, why_put, whys_are, whys_found, whys_put}
use Rattle.bip_observe.proofs.because.reasons_above.Goals as goal

pub why-requires : goal.why-requires
why-requires c =
    let v = observed c.args.offers.now in
    let same : c.model.result.now ≡ v.plan.model = c.model.ensures
    ∙ ap (λ (p : Planned). p.model) (sym c.requires.of_plan) in
    above_declared v.plan.model c.args.inter.0 c.above-above.result.now
    (rw same at c.above-above.ensures.valid)
    (rw same at c.above-above.ensures.above) c.loop-place.place
    (record { 0 = 0 }) c.loop-place-test.true

pub bounds-whys-place : goal.bounds-whys-place
bounds-whys-place c =
    let v = observed c.args.offers.now in
    let same : c.model.result.now ≡ v.plan.model = c.model.ensures
    ∙ ap (λ (p : Planned). p.model) (sym c.requires.of_plan) in
    let few = few_above v.plan.model c.args.inter.0 c.above-above.result.now
    (rw same at c.above-above.ensures.valid) c.requires.ready.declared
    (rw same at c.above-above.ensures.above) in
    omega (arith, few, c.loop-place-test.true)

pub loop-place-preserved : goal.loop-place-preserved
loop-place-preserved c =
    let v = observed c.args.offers.now in
    let above = c.above-above.result.now in
    let i = c.loop-place.place in
    let d : InterId = record { 0 = 0 } in
    let b = get_or above i d in
    let same : c.model.result.now ≡ v.plan.model = c.model.ensures
    ∙ ap (λ (p : Planned). p.model) (sym c.requires.of_plan) in
    let few = few_above v.plan.model c.args.inter.0 above
    (rw same at c.above-above.ensures.valid) c.requires.ready.declared
    (rw same at c.above-above.ensures.above) in (
      length-set c.loop-place.whys i _ ∙ c.loop-place.invariant.0,
      why_put v c.args.inter.0 above c.loop-place.whys i b c.why.result
          (omega (arith, few, c.loop-place-test.true, c.loop-place.invariant.0))
          c.loop-place-test.true (get_or_default above i b d c.loop-place-test.true) c.why.ensures
          c.loop-place.invariant.1,
    )

pub unreachable-requires : goal.unreachable-requires
unreachable-requires c =
    let v = observed c.args.offers.now in
    let above = c.above-above.result.now in
    let same : c.model.result.now ≡ v.plan.model = c.model.ensures
    ∙ ap (λ (p : Planned). p.model) (sym c.requires.of_plan) in
    let list : IsListAbove v.plan.model.priorities c.args.inter.0 above =
    rw same at c.above-above.ensures.above in
    let few = few_above v.plan.model c.args.inter.0 above
    (rw same at c.above-above.ensures.valid) c.requires.ready.declared list in
    let all = whys_put v c.args.inter.0 above c.loop-place.whys c.loop-place.place
    c.loop-place-test.false c.loop-place.auto.place-end c.loop-place.invariant.1 in
    false≢true (c.in-None.ensures.exact.1 (subst IsReasons (sym all)
    (whys_are v c.args.inter.0 above (rw same at c.above-above.ensures.valid) list few)))

pub returns : goal.returns
returns c =
    let v = observed c.args.offers.now in
    let above = c.above-above.result.now in
    let same : c.model.result.now ≡ v.plan.model = c.model.ensures
    ∙ ap (λ (p : Planned). p.model) (sym c.requires.of_plan) in
    let list : IsListAbove v.plan.model.priorities c.args.inter.0 above =
    rw same at c.above-above.ensures.above in
    let all = whys_put v c.args.inter.0 above c.loop-place.whys c.loop-place.place
    c.loop-place-test.false c.loop-place.auto.place-end c.loop-place.invariant.1 in
    subst (λ (ys : List Why). AreReasonsBy v c.args.inter.0 ys)
    (sym (c.in-Some.ensures.reasons ∙ all)) (whys_found v c.args.inter.0 above list)
