use Rattle.std.proofs.Common.{◌≡◌, ◌∙◌, ap, sym}
use Rattle.bip_model.proofs.PartyLemmas.{above_declared}
use Rattle.bip_partition.specs.Plans.{Planned}
use Rattle.bip_observe.proofs.LackLemmas.{lacking_found}
use Rattle.bip_observe.specs.Offers.{observed}
use Rattle.bip_observe.proofs.verdicts.lacking_above.Goals as goal

pub first_open-requires : goal.first_open-requires
first_open-requires c =
    let v = observed c.args.offers.now in
    let same : c.model-model.result.now ≡ v.plan.model = c.model-model.ensures
    ∙ ap (λ (p : Planned). p.model) (sym c.requires.of_plan) in
    above_declared v.plan.model c.args.inter.0 c.above.result.now (rw same at c.above.ensures.valid)
    (rw same at c.above.ensures.above)

pub returns : goal.returns
returns c =
    let v = observed c.args.offers.now in
    let a = c.args.inter.0 in
    let same : c.model-model.result.now ≡ v.plan.model = c.model-model.ensures
    ∙ ap (λ (p : Planned). p.model) (sym c.requires.of_plan) in
    let verdict = rw c.in-NotReady.is at c.decide.ensures in
    lacking_found v a c.in-NotReady.comp c.above.result.now c.first_open.result verdict
    (rw same at (sym c.moves.ensures ∙ c.if-moves.false))
    (rw same at c.above.ensures.above) c.first_open.ensures
