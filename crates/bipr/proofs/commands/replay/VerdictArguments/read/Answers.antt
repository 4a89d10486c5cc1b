use Rattle.bip_program.proofs.AskedLemmas.{read_none}
use Rattle.bipr.proofs.commands.replay.VerdictArguments.read.Goals as goal

pub returns-in_err-read : goal.returns-in_err-read
returns-in_err-read c =
    read_none c.from_residual.result _ c.from_residual.ensures
    (λ asked is. c.in_err-read.ensures asked.replay is.replay)
