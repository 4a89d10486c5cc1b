use Rattle.std.proofs.Common.{rules, subst, sym}
use Rattle.bipr.specs.Seeds.{IsSeedAnswer, scheduled, seed_lacking, too_long}
use Rattle.bipr.proofs.EndingLemmas.{outcome_answered, outcome_lacking}
use Rattle.bipr.proofs.seeds.write_seed.Goals as goal

pub returns-in_err-schedule : goal.returns-in_err-schedule
returns-in_err-schedule g c =
    outcome_lacking c.from_residual.result (IsSeedAnswer c.args.plan.now c.args.asked.now)
    c.from_residual.ensures.1 seed_lacking

pub returns-then-len-gt-MOST_BYTES : goal.returns-then-len-gt-MOST_BYTES
returns-then-len-gt-MOST_BYTES g c =
    outcome_answered (IsSeedAnswer c.args.plan.now c.args.asked.now) _
    (too_long c.in_ok-schedule.schedule.items c.in_ok-schedule.ensures (search rules))

pub returns : goal.returns
returns g c =
    outcome_answered (IsSeedAnswer c.args.plan.now c.args.asked.now) _
    (subst (IsSeedAnswer c.args.plan.now c.args.asked.now) (sym c.said.ensures)
    (scheduled c.in_ok-schedule.schedule.items c.in_ok-schedule.ensures (search rules)))
