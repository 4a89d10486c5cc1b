use Rattle.bip_program.proofs.AskedLemmas.{read_none}
use Rattle.bipr.proofs.commands.steps.StepsArguments.read.Goals as goal

pub returns-in_err-base_asked : goal.returns-in_err-base_asked
returns-in_err-base_asked c =
    read_none c.from_residual-in_err-base_asked.result _ c.from_residual-in_err-base_asked.ensures
    (λ asked is. c.in_err-base_asked.ensures asked.base is.base)

pub returns-in_err-wide_number_asked : goal.returns-in_err-wide_number_asked
returns-in_err-wide_number_asked c =
    read_none c.from_residual-in_err-wide_number_asked.result _
    c.from_residual-in_err-wide_number_asked.ensures
    (λ asked is. c.in_err-wide_number_asked.ensures.none asked.rows.from is.from)
