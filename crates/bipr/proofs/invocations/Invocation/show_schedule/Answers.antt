use Rattle.bipr.specs.Sequenced.{IsScheduleShown, drawn_in, not_drawn}
use Rattle.bipr.proofs.EndingLemmas.{outcomes_quiet, outcomes_weaker}
use Rattle.bipr.proofs.invocations.Invocation.show_schedule.Goals as goal

pub returns-in-None-clause-says : goal.returns-in-None-clause-says
returns-in-None-clause-says g c =
    outcomes_weaker g.E.Stream.writes _ _ c.answer_schedule.result _ _ c.answer_schedule.ensures
    (λ told answer is. not_drawn told answer c.in-None.is is)

pub returns-in-Some-clause-says : goal.returns-in-Some-clause-says
returns-in-Some-clause-says g c =
    let hosts = g.H.Hosting.hosts c.args.self.now.hosting.now in
    outcomes_quiet g.E.Stream.writes _ _ c.answer_drawn.result
    (IsScheduleShown c.args.plan.now hosts c.args.asked.now c.args.schedule.now)
    c.answer_drawn.ensures.errors
    (λ answer said. drawn_in c.in-Some.path answer c.in-Some.is
    (c.answer_drawn.ensures.says answer said))
