use Rattle.bipr.specs.Seeds.{IsSeedAnswer, seed_lacking}
use Rattle.bipr.proofs.EndingLemmas.{outcome_lacking}
use Rattle.bipr.proofs.seeds.answer_seed.Goals as goal

pub returns-in_err-bank-in-Central : goal.returns-in_err-bank-in-Central
returns-in_err-bank-in-Central c =
    outcome_lacking c.from_residual.result (IsSeedAnswer c.args.plan.now c.args.asked.now)
    c.from_residual.ensures.1 seed_lacking

pub returns-in_err-bank-in-Ring : goal.returns-in_err-bank-in-Ring
returns-in_err-bank-in-Ring c =
    outcome_lacking c.from_residual-in_err-bank-in-Ring.result
    (IsSeedAnswer c.args.plan.now c.args.asked.now)
    c.from_residual-in_err-bank-in-Ring.ensures.1 seed_lacking

pub returns-in_err-bank-in-Forks : goal.returns-in_err-bank-in-Forks
returns-in_err-bank-in-Forks c =
    outcome_lacking c.from_residual-in_err-bank-in-Forks.result
    (IsSeedAnswer c.args.plan.now c.args.asked.now)
    c.from_residual-in_err-bank-in-Forks.ensures.1 seed_lacking
