use Rattle.std.proofs.Common.{rules}
use Rattle.bip_schedule.proofs.DrawnSpellingLemmas.{drawn_spelled}
use Rattle.bip_schedule.proofs.seeding.event_by_table.Goals as goal

pub returns-clause-spelled : goal.returns-clause-spelled
returns-clause-spelled g c =
    rw (← c.plan-plan.ensures) (drawn_spelled _ _ _ _ c.event_of.result
    c.recall.ensures.planned (search rules) c.event_of.ensures)
