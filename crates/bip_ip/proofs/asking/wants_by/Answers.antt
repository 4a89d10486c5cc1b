use Rattle.std.proofs.Common.{◌∙◌, List, subst, sym}
use Rattle.std.proofs.lemmas.Bool.{false≢true}
use Rattle.bip_model.specs.Parties.{AreWantsBy}
use Rattle.bip_model.specs.Parts.{IsSystem}
use Rattle.bip_model.specs.Wants.{IsWants}
use Rattle.bip_model.specs.declared.wants.Want.{Want}
use Rattle.bip_partition.specs.Plans.{IsListTouched}
use Rattle.bip_observe.specs.Offers.{observed}
use Rattle.bip_observe.specs.Verdicts.{offers_of}
use Rattle.bip_ip.proofs.AskingLemmas.{wants_are, wants_by_offers, wants_put}
use Rattle.bip_ip.proofs.asking.wants_by.Goals as goal

pub unreachable-requires : goal.unreachable-requires
unreachable-requires c =
    let v = observed c.args.offers.now in
    let cs = c.touches-touched.result.now in
    let reasons = c.args.reasons.now in
    let all = wants_put v.plan.model (offers_of v) c.args.inter.0 reasons cs c.loop-comp.wants
    c.loop-comp.comp-index c.loop-comp.count c.loop-comp-test.false
    c.loop-comp.auto.comp-index-end c.loop-comp.invariant.2 in
    let valid : IsSystem v.plan.model = rw c.plan-plan.ensures.plan at
    c.recall.ensures.planned.valid in
    let list : IsListTouched v.plan.model c.args.inter.0 cs =
    rw c.plan-plan.ensures.plan at c.touches-touched.ensures.touches in
    let are = wants_are v c.args.inter.0 reasons cs valid c.requires.declared c.requires.counted
    c.requires.sound list c.touches-touched.ensures.few in
    false≢true (c.in-None.ensures.exact.1 (subst IsWants (sym all) are))

pub returns : goal.returns
returns c =
    let v = observed c.args.offers.now in
    let cs = c.touches-touched.result.now in
    let reasons = c.args.reasons.now in
    let all = wants_put v.plan.model (offers_of v) c.args.inter.0 reasons cs c.loop-comp.wants
    c.loop-comp.comp-index c.loop-comp.count c.loop-comp-test.false
    c.loop-comp.auto.comp-index-end c.loop-comp.invariant.2 in
    let list : IsListTouched v.plan.model c.args.inter.0 cs =
    rw c.plan-plan.ensures.plan at c.touches-touched.ensures.touches in
    subst (λ (ws : List Want). AreWantsBy v.plan.model (offers_of v) c.args.inter.0 reasons ws)
    (sym (c.in-Some.ensures.wants ∙ all))
    (wants_by_offers v c.args.inter.0 reasons cs c.requires.sound list)
