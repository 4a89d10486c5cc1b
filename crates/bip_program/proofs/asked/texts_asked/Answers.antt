use Rattle.bip_program.proofs.ProgramLemmas.{all_read}
use Rattle.bip_program.proofs.asked.texts_asked.Goals as goal

pub returns : goal.returns
returns c = all_read c.args.matches.now c.args.name.now _ c.get_strs.ensures
