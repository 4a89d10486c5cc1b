use Rattle.bip_program.proofs.AskedLemmas.{read_none}
use Rattle.bipr.proofs.commands.explore.ExploreArguments.read.Goals as goal

pub returns-in_err-number_asked : goal.returns-in_err-number_asked
returns-in_err-number_asked c =
    read_none c.from_residual-in_err-number_asked.result _
    c.from_residual-in_err-number_asked.ensures
    (λ asked is. c.in_err-number_asked.ensures.none asked.seeds is.seeds)

pub returns-in_err-draws_asked : goal.returns-in_err-draws_asked
returns-in_err-draws_asked c =
    read_none c.from_residual-in_err-draws_asked.result _
    c.from_residual-in_err-draws_asked.ensures
    (λ asked is. c.in_err-draws_asked.ensures asked.draws is.draws)
