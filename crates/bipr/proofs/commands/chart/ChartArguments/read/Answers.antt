use Rattle.bip_program.proofs.AskedLemmas.{read_none}
use Rattle.bipr.proofs.commands.chart.ChartArguments.read.Goals as goal

pub returns-in_err-replay : goal.returns-in_err-replay
returns-in_err-replay c =
    read_none c.from_residual.result _ c.from_residual.ensures
    (λ asked is. c.in_err-replay.ensures asked.replay is.replay)

pub returns-in_err-wide_number_asked : goal.returns-in_err-wide_number_asked
returns-in_err-wide_number_asked c =
    read_none c.from_residual-in_err-wide_number_asked.result _
    c.from_residual-in_err-wide_number_asked.ensures
    (λ asked is. c.in_err-wide_number_asked.ensures.none asked.shown.from is.from)
