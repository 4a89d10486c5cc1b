use Rattle.std.proofs.Common.{refl, subst, sym}
use Rattle.bipr.specs.Sequenced.{IsScheduleDrawn, drawn, too_many, undrawn, undrawn_lacking, unmade}
use Rattle.bipr.proofs.EndingLemmas.{outcome_answered, outcome_lacking}
use Rattle.bipr.proofs.ScheduledLemmas.{has_refused}
use Rattle.bipr.proofs.invocations.Invocation.answer_drawn.Goals as goal

pub returns-in_err-refuse_schedule-in-Err-clause-says :
    goal.returns-in_err-refuse_schedule-in-Err-clause-says
returns-in_err-refuse_schedule-in-Err-clause-says g c =
    let hosts = g.H.Hosting.hosts c.args.self.now.hosting.now in
    outcome_lacking c.from_residual.result
    (IsScheduleDrawn c.args.plan.now hosts c.args.asked.now c.args.path.now c.args.text.now)
    c.from_residual.ensures.1 undrawn_lacking

pub returns-in-Err-clause-says : goal.returns-in-Err-clause-says
returns-in-Err-clause-says g c =
    let hosts = g.H.Hosting.hosts c.args.self.now.hosting.now in
    outcome_answered
    (IsScheduleDrawn c.args.plan.now hosts c.args.asked.now c.args.path.now c.args.text.now)
    c.in_ok-refuse_schedule-in-Err.field-0
    (undrawn _ (has_refused c.args.plan.now c.args.text.now _ _ c.in-Err.line c.in-Err.fault
    c.in_ok-refuse_schedule-in-Err.ensures.refused refl c.in-Err.ensures.fault.1
    c.in-Err.ensures.fault.0))

pub returns-in_err-drawn-clause-says : goal.returns-in_err-drawn-clause-says
returns-in_err-drawn-clause-says g c =
    let hosts = g.H.Hosting.hosts c.args.self.now.hosting.now in
    outcome_lacking c.from_residual-in_err-drawn.result
    (IsScheduleDrawn c.args.plan.now hosts c.args.asked.now c.args.path.now c.args.text.now)
    c.from_residual-in_err-drawn.ensures.1 undrawn_lacking

pub returns-in_err-refuse_rows-clause-says :
    goal.returns-in_err-refuse_rows-clause-says
returns-in_err-refuse_rows-clause-says g c =
    let hosts = g.H.Hosting.hosts c.args.self.now.hosting.now in
    outcome_lacking c.from_residual-in_err-refuse_rows.result
    (IsScheduleDrawn c.args.plan.now hosts c.args.asked.now c.args.path.now c.args.text.now)
    c.from_residual-in_err-refuse_rows.ensures.1 undrawn_lacking

pub returns-in_default-clause-says : goal.returns-in_default-clause-says
returns-in_default-clause-says g c =
    let hosts = g.H.Hosting.hosts c.args.self.now.hosting.now in
    let is = IsScheduleDrawn c.args.plan.now hosts c.args.asked.now c.args.path.now c.args.text.now
    in
    let none = rw c.in_default.is at c.in_ok-drawn.ensures.many in
    outcome_answered is c.in_ok-refuse_rows.field-0
    (subst is (sym c.in_ok-refuse_rows.ensures)
    (too_many (none c.args.text.now c.in-Ok.ensures.events)))

pub returns-in_default-make-clause-says : goal.returns-in_default-make-clause-says
returns-in_default-make-clause-says g c =
    let hosts = g.H.Hosting.hosts c.args.self.now.hosting.now in
    let fails = rw c.in_default-make.is at c.make.ensures in
    outcome_answered
    (IsScheduleDrawn c.args.plan.now hosts c.args.asked.now c.args.path.now c.args.text.now)
    _ (unmade fails)

pub returns-in_err-answer_keeping-clause-says :
    goal.returns-in_err-answer_keeping-clause-says
returns-in_err-answer_keeping-clause-says g c =
    let hosts = g.H.Hosting.hosts c.args.self.now.hosting.now in
    outcome_lacking c.from_residual-in_err-answer_keeping.result
    (IsScheduleDrawn c.args.plan.now hosts c.args.asked.now c.args.path.now c.args.text.now)
    c.from_residual-in_err-answer_keeping.ensures.1 undrawn_lacking

pub returns-clause-says : goal.returns-clause-says
returns-clause-says g c =
    let hosts = g.H.Hosting.hosts c.args.self.now.hosting.now in
    let is = IsScheduleDrawn c.args.plan.now hosts c.args.asked.now c.args.path.now c.args.text.now
    in
    let has = rw c.in-Some.is at c.in_ok-drawn.ensures.drawn in
    let steps = has c.args.text.now c.in-Ok.ensures.events in
    outcome_answered is c.in_ok-answer_keeping.field-0
    (subst is (sym c.in_ok-answer_keeping.ensures)
    (drawn steps.0 c.in-Some.drawn.plain c.in-Some.drawn.picture.items steps.1 steps.2))
