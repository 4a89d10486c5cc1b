use Rattle.bip_program.proofs.ProgramLemmas.{first_read}
use Rattle.bip_program.proofs.asked.text_asked.Goals as goal

pub returns : goal.returns
returns c = first_read c.args.matches.now c.args.name.now _ c.get_str.ensures
