use Rattle.bipr.specs.Scheduled.{lacking}
use Rattle.bipr.proofs.EndingLemmas.{lacks_quietly}
use Rattle.bipr.proofs.scheduled.answer_schedule.Goals as goal

pub returns-in_err-bank-in-Central : goal.returns-in_err-bank-in-Central
returns-in_err-bank-in-Central g c =
    lacks_quietly _ _ c.from_residual.result _ c.from_residual.ensures.1 lacking

pub returns-in_err-bank-in-Ring : goal.returns-in_err-bank-in-Ring
returns-in_err-bank-in-Ring g c =
    lacks_quietly _ _ c.from_residual-in_err-bank-in-Ring.result _
    c.from_residual-in_err-bank-in-Ring.ensures.1 lacking

pub returns-in_err-bank-in-Forks : goal.returns-in_err-bank-in-Forks
returns-in_err-bank-in-Forks g c =
    lacks_quietly _ _ c.from_residual-in_err-bank-in-Forks.result _
    c.from_residual-in_err-bank-in-Forks.ensures.1 lacking
