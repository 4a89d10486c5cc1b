use Rattle.bipr.proofs.exit_code.Goals as goal

pub returns : goal.returns
returns g c = (_, c.end_program.ensures, c.code.ensures)
