use Rattle.bip_program.proofs.AskedLemmas.{read_none}
use Rattle.bipr.proofs.command_line.draws_asked.Goals as goal

pub returns-in_err-number_asked : goal.returns-in_err-number_asked
returns-in_err-number_asked c =
    read_none c.from_residual.result _ c.from_residual.ensures
    (λ asked is. c.in_err-number_asked.ensures.none asked.count is.count)
