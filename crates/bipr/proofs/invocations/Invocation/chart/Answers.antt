use Rattle.std.proofs.Common.{[], refl}
use Rattle.bipr.specs.Commands.{IsChart, charted, disordered}
use Rattle.bipr.proofs.EndingLemmas.{outcome_answered, outcomes_quiet}
use Rattle.bipr.proofs.invocations.Invocation.chart.Goals as goal

pub returns-then-not-is_in_order-clause-says : goal.returns-then-not-is_in_order-clause-says
returns-then-not-is_in_order-clause-says g c =
    let is = IsChart (g.I.Inputs.gives c.args.self.now.inputs.now) c.args.asked.now in
    outcomes_quiet g.E.Stream.writes _ _ _ is refl
    (outcome_answered (is []) _
    (disordered (c.is_in_order.ensures.no c.if-not-is_in_order.true)))

pub returns-clause-says : goal.returns-clause-says
returns-clause-says g c =
    let is = IsChart (g.I.Inputs.gives c.args.self.now.inputs.now) c.args.asked.now in
    outcomes_quiet g.E.Stream.writes _ _ c.answer_viewed.result is refl
    (λ answer said. charted [] answer (c.is_in_order.ensures.yes c.if-not-is_in_order.false)
    (c.answer_viewed.ensures answer said))
