use Rattle.std.proofs.Common.{arith}
use Rattle.std.proofs.lemmas.Grind.{common_steps}
use Rattle.bip_tell.proofs.words.write_role.Goals as goal

pub loop-want-preserved : goal.loop-want-preserved
loop-want-preserved c = grind (arith, common_steps)
