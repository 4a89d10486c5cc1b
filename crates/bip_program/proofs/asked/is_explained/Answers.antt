use Rattle.std.proofs.Common.{refl}
use Rattle.bip_program.proofs.asked.is_explained.Goals as goal

pub returns : goal.returns
returns c = record {
  above = c.is_set-above.result;
  behind = c.is_set_behind-behind.result;
  before = c.is_set-above.ensures;
  after = c.is_set_behind-behind.ensures;
  either = refl;
}
