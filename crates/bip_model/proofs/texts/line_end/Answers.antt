use Rattle.bip_model.proofs.TextLemmas.{first_is_position}
use Rattle.bip_model.proofs.texts.line_end.Goals as goal

pub returns : goal.returns
returns c = first_is_position c.args.text.now c.memchr.result c.memchr.ensures
