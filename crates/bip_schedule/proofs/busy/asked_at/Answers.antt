use Rattle.bip_schedule.proofs.busy.asked_at.Goals as goal

pub returns-in-Try-clause-event : goal.returns-in-Try-clause-event
returns-in-Try-clause-event g c =
    rw (c.in-Try.is, ← c.plan.ensures) (c.try_of.ensures.event c.args.stations)

pub returns-in-Try-clause-spelled : goal.returns-in-Try-clause-spelled
returns-in-Try-clause-spelled g c = λ list each.
    rw (← c.plan.ensures) (c.try_of.ensures.spelled list)
