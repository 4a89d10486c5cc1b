use Rattle.std.proofs.Common.{◌∙◌}
use Rattle.bip_program.proofs.ProgramLemmas.{one_read}
use Rattle.bip_program.proofs.asked.is_set.Goals as goal

pub returns : goal.returns
returns c = record {
  on = λ given. c.get_flag.ensures.value (one_read _ _ ∙ given);
  off = λ given. c.get_flag.ensures.other (one_read _ _ ∙ given);
  absent = λ given. c.get_flag.ensures.none (one_read _ _ ∙ given);
}
